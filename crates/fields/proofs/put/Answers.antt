use Rattle.fields.proofs.Overwrite.{stored, written}
use Rattle.fields.proofs.Numbers.{to_le-step, to_le-done}
use Rattle.fields.proofs.put.Goals as goal

pub loop-i-preserved : goal.loop-i-preserved
loop-i-preserved c = stored _ _ _ _ _ _ (rw (to_le-step _ _ _ c.loop-i-test.true) at c.loop-i.invariant)

pub returns : goal.returns
returns c = written _ _ _ _ (to_le-done _ _ _ c.loop-i-test.false) c.loop-i.invariant
