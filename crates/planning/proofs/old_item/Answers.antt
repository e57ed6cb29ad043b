-- `planning::old_item` meets its contract. Assumes nothing.
use mathlib.Core.Path.{subst}
use Rattle.opening.specs.Answers.{PointsTo}
use Rattle.planning.proofs.Looking.{item-none, item-old}
use Rattle.planning.proofs.old_item.Goals as goal

pub returns-in-None : goal.returns-in-None
returns-in-None c = item-none _ _ _ (subst (PointsTo _ _ _) c.in-None.is c.written.ensures)

pub returns-in-Some : goal.returns-in-Some
returns-in-Some c = item-old _ _ _ _ (subst (PointsTo _ _ _) c.in-Some.is c.written.ensures)
