-- `opening::Opened::is_unwritten` meets its contract. Assumes nothing.
use Rattle.format.specs.Tests.{same}
use Rattle.format.specs.Layouts.{entry_status}
use Rattle.format.specs.Reading.{unwritten}
use Rattle.opening.proofs.Opened.is_unwritten.Goals as goal

pub returns-in-First : goal.returns-in-First
unfolding unwritten same
returns-in-First c = rw (c.in-First.is)

pub returns-in-Second : goal.returns-in-Second
unfolding unwritten same entry_status
returns-in-Second c = rw (c.in-Second.is)
