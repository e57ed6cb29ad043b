-- `opening::Opened::kind_verdict` meets its contract. Assumes nothing.
use Rattle.format.proofs.Chains.{stop-last, on-last, by}
use Rattle.opening.proofs.Opened.kind_verdict.Goals as goal

pub returns-then-is_second : goal.returns-then-is_second
returns-then-is_second c = rw c.of.ensures (stop-last (by c.is_second.ensures c.if-is_second.true))

pub returns : goal.returns
returns c = on-last _ (by c.is_second.ensures c.if-is_second.false)
