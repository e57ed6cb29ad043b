use native.Mathlib.Omega.{arith}
use Rattle.format.proofs.Chains.{by}
use Rattle.checking.proofs.Outside.{outside-start, outside-found, outside-goes, outside-done}
use Rattle.checking.proofs.any_outside.Goals as goal

pub returns-then-is_outside : goal.returns-then-is_outside
returns-then-is_outside c = outside-found _ _ _ c.loop-a.invariant (omega arith) c.is_outside-arg-1.given (by c.if-is_outside.true c.is_outside.ensures)

pub loop-a-preserved : goal.loop-a-preserved
loop-a-preserved c = outside-goes _ _ _ c.loop-a.invariant (omega arith) c.is_outside-arg-1.given (by c.if-is_outside.false c.is_outside.ensures)

pub returns : goal.returns
returns c = outside-done _ _ _ c.loop-a.invariant (omega arith)

pub loop-a-init : goal.loop-a-init
loop-a-init c = outside-start _ _
