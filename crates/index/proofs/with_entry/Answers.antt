-- `index::with_entry` meets its contract. Assumes nothing.
use Rattle.format.specs.Refusals.{answer}
use Rattle.format.specs.Opening.{one_of}
use Rattle.format.proofs.Tests.{choose-true, choose-false}
use Rattle.format.proofs.Chains.{by}
use Rattle.index.specs.Tables.{before}
use Rattle.index.proofs.with_entry.Goals as goal

pub returns-in-None : goal.returns-in-None
unfolding before
returns-in-None c =
    λ o l. rw (choose-true _ _ _ (by c.is_table.ensures c.if-is_table.true), c.in-None.is)

pub returns-in-One : goal.returns-in-One
unfolding before one_of answer
returns-in-One c =
    λ o l. rw (choose-true _ _ _ (by c.is_table.ensures c.if-is_table.true), c.in-One.is)

pub returns-in-More : goal.returns-in-More
unfolding before one_of answer
returns-in-More c =
    λ o l. rw (choose-true _ _ _ (by c.is_table.ensures c.if-is_table.true), c.in-More.is)

pub returns : goal.returns
returns c = λ o l. rw (choose-false _ _ _ (by c.is_table.ensures c.if-is_table.false))
