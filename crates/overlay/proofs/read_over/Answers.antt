-- `overlay::read_over` meets its contract. Assumes nothing.
use native.Mathlib.Omega.{arith}
use mathlib.Core.Path.{◌≡◌, ◌∙◌}
use Rattle.std.specs.Prelude.{Ok}
use Rattle.fields.specs.Bytes.{part}
use Rattle.format.specs.Overlaying.{locate_over}
use Rattle.overlay.proofs.Pair.{reads_none, of-child, of-parent}
use Rattle.overlay.proofs.read_over.Goals as goal
use Rattle.overlay.proofs.read_over.Goals.{In-Ok}

found : (c : In-Ok)
    → (let s = c.args in Ok c.in-Ok.s ≡ locate_over s.child.now s.parent.now s.a.0)
found c = c.in-Ok.ensures

pub part-requires-then-s-eq0 : goal.part-requires-then-s-eq0
part-requires-then-s-eq0 c = (of-child _ _ _ _ (found (goal.at.part-requires-then-s-eq0 c).In-Ok) (omega (arith, c.if-s-eq0.true))).0

pub returns-then-s-eq0 : goal.returns-then-s-eq0
returns-then-s-eq0 c = c.part-then-s-eq0.ensures ∙ (of-child _ _ _ _ (found (goal.at.returns-then-s-eq0 c).In-Ok) (omega (arith, c.if-s-eq0.true))).1

pub part-requires-in-Ok : goal.part-requires-in-Ok
part-requires-in-Ok c = (of-parent _ _ _ _ (found (goal.at.part-requires-in-Ok c).In-Ok) c.if-s-eq0.false).0

-- where the pair refuses, the empty part is what is read
pub returns-in-Err : goal.returns-in-Err
unfolding part
returns-in-Err c = c.part.ensures ∙ reads_none _ _ _ _ c.in-Err.ensures

pub returns-else-s-eq0 : goal.returns-else-s-eq0
returns-else-s-eq0 c = c.part-in-Ok.ensures ∙ (of-parent _ _ _ _ (found (goal.at.returns-else-s-eq0 c).In-Ok) c.if-s-eq0.false).1
