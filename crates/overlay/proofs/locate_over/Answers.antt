-- `overlay::locate_over` meets its contract. Assumes nothing.
use Rattle.format.proofs.Tests.{never}
use Rattle.overlay.proofs.Pair.{child-at, child-refused, not_written_lem}
use Rattle.overlay.proofs.locate_over.Goals as goal

pub returns-then-is : goal.returns-then-is
returns-then-is c = not_written_lem _ _ _ _ c.in-Err.ensures (c.is.ensures.0 c.if-is.true) _ c.locate_parent.ensures

pub returns-in-Ok : goal.returns-in-Ok
returns-in-Ok c = child-at _ _ _ _ c.in-Ok.ensures

pub returns-else-is : goal.returns-else-is
returns-else-is c = child-refused _ _ _ _ c.in-Err.ensures (λ n. never (c.is.ensures.1 n) c.if-is.false)
