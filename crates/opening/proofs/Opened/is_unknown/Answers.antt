-- `opening::Opened::is_unknown` meets its contract. Assumes nothing.
use Rattle.format.specs.Tests.{differs}
use Rattle.format.specs.Layouts.{entry_status}
use Rattle.format.specs.Reading.{unknown}
use Rattle.opening.proofs.Opened.is_unknown.Goals as goal

pub returns-in-First : goal.returns-in-First
unfolding unknown differs
returns-in-First c = rw (c.in-First.is)

pub returns-in-Second : goal.returns-in-Second
unfolding unknown differs entry_status
returns-in-Second c = rw (c.in-Second.is)
