-- `tables::kind_at` meets its contract. Assumes nothing.
use Rattle.format.specs.Opening.{kind_by, kind_at}
use Rattle.format.proofs.Checks.{lacks-not}
use Rattle.tables.proofs.kind_at.Goals as goal

pub returns-then-spells : goal.returns-then-spells
unfolding kind_at kind_by
returns-then-spells c = rw (← lacks-not _ _ _ c.spells.ensures, c.if-spells.true)

pub returns : goal.returns
unfolding kind_at kind_by
returns c = rw (← lacks-not _ _ _ c.spells.ensures, c.if-spells.false)
