-- `pairs::Pair::parent_sector` meets its contract. Assumes nothing.
use mathlib.Core.Bool.{false}
use mathlib.Core.Path.{◌≡◌, ap, ◌∙◌}
use Prim.Native.Nat.{◌<◌}
use Rattle.std.specs.Prelude.{Ok}
use Rattle.fields.specs.Bytes.{part}
use Rattle.format.specs.Opening.{opening}
use Rattle.format.specs.Reading.{outside, entry_number}
use Rattle.opening.specs.Answers.{IsNumbered}
use Rattle.opening.specs.Images.{held, outcome_of}
use Rattle.pairs.proofs.Sectors.{parent-unopened, parent-outside, parent-entry, parent-bytes}
use Rattle.pairs.proofs.pair.Pair.parent_sector.Goals as goal
use Rattle.pairs.proofs.pair.Pair.parent_sector.Goals.{In-Ok, In-Some}

-- the parent opens so
opens : (c : In-Ok) → opening c.args.self.parent.bytes.now ≡ Ok (held c.in-Ok.image)
unfolding outcome_of
opens c = c.args.self.parent.opens ∙ ap outcome_of c.in-Ok.is

numbered : (c : In-Some)
    → let t = held c.in-Ok.image in
    let a = c.args.a.0 in
    let n = c.in-Some.n.0 in
    (outside t a ≡ false) × (entry_number t a ≡ n) × (n < t.count)
unfolding IsNumbered
numbered c = c.in-Some.ensures

pub returns-in_default : goal.returns-in_default
unfolding part outcome_of
returns-in_default c = c.part.ensures ∙ parent-unopened _ _ _ (c.args.self.parent.opens ∙ ap outcome_of c.in_default.is)

pub entry_sector-requires : goal.entry_sector-requires
entry_sector-requires c =
    let at = goal.at.entry_sector-requires c in
    parent-entry _ _ _ (opens at.In-Ok) _ (numbered at.In-Some) (c.args.self.parent.lent _ c.in-Ok.is) c.requires

pub returns-in-None : goal.returns-in-None
unfolding part IsNumbered
returns-in-None c =
    c.part-in-None.ensures ∙ parent-outside _ _ _ (opens (goal.at.returns-in-None c).In-Ok) c.in-None.ensures

pub returns-in-Some : goal.returns-in-Some
returns-in-Some c =
    let at = goal.at.returns-in-Some c in
    c.entry_sector.ensures ∙ parent-bytes _ _ _ (opens at.In-Ok) _ (numbered at.In-Some) (c.args.self.parent.lent _ c.in-Ok.is)
