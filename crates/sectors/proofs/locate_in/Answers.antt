-- `sectors::locate_in` meets its contract. Assumes nothing.
use Rattle.format.proofs.Answers.{locate-unopened}
use Rattle.opening.specs.Images.{outcome_of}
use Rattle.sectors.proofs.locate_in.Goals as goal

pub returns-in-Err : goal.returns-in-Err
unfolding outcome_of
returns-in-Err c = locate-unopened _ _ _ c.in-Err.ensures.opens

pub returns-in-Ok : goal.returns-in-Ok
returns-in-Ok c = rw c.in-Ok.ensures.bytes at c.locate.ensures
