-- `tables::extent_verdict` meets its contract. Assumes nothing.
use Rattle.format.specs.Opening.{extent_verdict}
use Rattle.tables.proofs.extent_verdict.Goals as goal

pub second_verdict-requires : goal.second_verdict-requires
second_verdict-requires c = rw c.in-Second.is at c.requires

pub returns-in-First : goal.returns-in-First
unfolding extent_verdict
returns-in-First c = rw c.in-First.is

pub returns-in-Second : goal.returns-in-Second
returns-in-Second c = rw c.in-Second.is c.second_verdict.ensures
