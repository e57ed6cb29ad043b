-- `opening::Opened::decoded` meets its contract. Assumes nothing.
use mathlib.Core.Path.{◌≡◌, refl, sym}
use native.Mathlib.Omega.{arith}
use Rattle.format.specs.declared.TableKind.TheVariants.{First, Second}
use Rattle.format.specs.Layouts.{entry_pointer}
use Rattle.format.proofs.Checks.{first-second}
use Rattle.opening.specs.Answers.{contents}
use Rattle.opening.proofs.Wraps.{no_wrap}
use Rattle.opening.proofs.Opened.decoded.Goals as goal
use Rattle.opening.proofs.Opened.decoded.Goals.{In-First, In-Second}

-- the kind, in each arm
first : (c : In-First) → (contents c.args.self).kind ≡ First
first c = c.in-First.is

second : (c : In-Second) → (contents c.args.self).kind ≡ Second
second c = c.in-Second.is

pub decode-requires : goal.decode-requires
unfolding entry_pointer
decode-requires c =
    (c.requires.shift, omega arith, no_wrap First c.args.entry _ 0 c.ranges.entry.fits (omega arith) (λ e. refl))

pub decode-requires-in-Second : goal.decode-requires-in-Second
unfolding entry_pointer
decode-requires-in-Second c =
    (c.requires.shift, c.requires.alignment, no_wrap Second c.args.entry _ _ c.ranges.entry.fits c.requires.alignment (λ e. absurd (first-second (sym e))))

pub returns-in-First : goal.returns-in-First
unfolding entry_pointer
returns-in-First c = let f = first (goal.at.returns-in-First c).In-First in rw (f, c.requires.flat f) c.decode.ensures

pub returns-in-Second : goal.returns-in-Second
unfolding entry_pointer
returns-in-Second c = rw (second (goal.at.returns-in-Second c).In-Second) c.decode-in-Second.ensures
