use lib.ListN.{drop_of_length-le}
use Rattle.fields.proofs.Overwrite.{stored, written}
use Rattle.fields.proofs.Steps.{drop-step}
use Rattle.fields.proofs.copy.Goals as goal

pub loop-i-preserved : goal.loop-i-preserved
loop-i-preserved c = stored _ _ _ _ _ _ (rw (drop-step _ _ c.loop-i-test.true) at c.loop-i.invariant)

pub returns : goal.returns
returns c = written _ _ _ _ (drop_of_length-le _ c.loop-i-test.false) c.loop-i.invariant
