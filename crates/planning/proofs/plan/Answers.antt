use native.Mathlib.Omega.{arith}
use Rattle.planning.proofs.Progress.{plan-starts, plan-goes, plan-done}
use Rattle.planning.proofs.plan.Goals as goal

pub loop-a-init : goal.loop-a-init
loop-a-init c = plan-starts _ _ _ _ _ c.requires.0

pub look_at-l-requires : goal.look_at-l-requires
look_at-l-requires c =
    (c.requires.0, c.requires.1, omega arith, c.loop-a.invariant.few)

pub loop-a-preserved : goal.loop-a-preserved
loop-a-preserved c =
    plan-goes _ _ _ _ _ c.loop-a.invariant (omega arith) _ _ c.look_at-l.ensures c.max-largest.ensures

pub returns : goal.returns
returns c = plan-done _ _ _ _ _ c.loop-a.invariant c.requires.0 (omega arith)
