-- `checking::entry_form` meets its contract. Assumes nothing.
use native.Mathlib.Omega.{arith}
use mathlib.Core.Path.{◌≡◌}
use Rattle.format.specs.Reading.{unknown_status}
use Rattle.format.proofs.Chains.{stop, on, by}
use Rattle.opening.specs.Images.{held}
use Rattle.opening.proofs.Accepted.{entry-inside}
use Rattle.opening.proofs.Entries.{status-is}
use Rattle.checking.specs.Checked.{entry_form}
use Rattle.checking.proofs.entry_form.Goals as goal
use Rattle.checking.proofs.entry_form.Goals.{After-is_unknown}

unknown : (c : After-is_unknown) → let a = c.args in c.is_unknown.result ≡ unknown_status a.image.bytes.now (held a.image) a.n.0
unknown c = status-is _ _ _ c.requires.1 c.is_unknown.ensures

pub returns-then-is_unknown : goal.returns-then-is_unknown
unfolding entry_form
returns-then-is_unknown c = rw c.of.ensures (stop _ (by (unknown (goal.at.returns-then-is_unknown c).After-is_unknown) c.if-is_unknown.true))

pub entry_place-requires : goal.entry_place-requires
entry_place-requires c = let k = entry-inside _ _ c.args.image.opens c.args.n.0 c.requires.0 in omega arith

pub returns : goal.returns
unfolding entry_form
returns c =
    on _ (by (unknown (goal.at.returns c).After-is_unknown) c.if-is_unknown.false) (rw (c.requires.2, c.entry_place.ensures) at c.form_verdict.ensures)
