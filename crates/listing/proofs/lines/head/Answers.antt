-- `lines::head` meets its contract. Assumes nothing.
use Rattle.listing.specs.Listing.{head}
use Rattle.listing.proofs.lines.head.Goals as goal

pub returns-in-Ok : goal.returns-in-Ok
unfolding head
returns-in-Ok c = rw c.in-Ok.is c.end.ensures

pub returns-in-Err : goal.returns-in-Err
unfolding head
returns-in-Err c = rw c.in-Err.is c.refused.ensures
