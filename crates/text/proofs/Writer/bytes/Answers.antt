use Rattle.text.proofs.Appends.{appends-none, appends-next, appends-end}
use Rattle.text.proofs.Writer.bytes.Goals as goal

pub loop-b-init : goal.loop-b-init
loop-b-init c = appends-none _

pub loop-b-preserved : goal.loop-b-preserved
loop-b-preserved c = appends-next _ _ c.loop-b.invariant c.loop-b-test.true c.byte.ensures

pub returns : goal.returns
returns c = appends-end _ _ c.loop-b.invariant c.loop-b-test.false
