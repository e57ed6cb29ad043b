use native.Mathlib.Omega.{arith}
use Rattle.arguments.proofs.Rising.{rising-start, rising-stops, rising-goes, rising-done}
use Rattle.arguments.proofs.is_rising.Goals as goal

pub loop-k-init : goal.loop-k-init
loop-k-init c = (omega arith, rising-start _)

pub returns-then-y-x : goal.returns-then-y-x
returns-then-y-x c =
    rising-stops _ _ c.loop-k.invariant.1 c.loop-k.invariant.0 c.loop-k-test.true c.x-1.given c.y-1.given c.if-y-x.true

pub loop-k-preserved : goal.loop-k-preserved
loop-k-preserved c = (
  omega arith,
  rising-goes _ _ c.loop-k.invariant.1 c.loop-k.invariant.0 c.loop-k-test.true c.x-1.given c.y-1.given c.if-y-x.false,
)

pub returns : goal.returns
returns c = rising-done _ _ c.loop-k.invariant.1 (omega arith)
