-- `checking::first_left` meets its contract. Assumes nothing.
use Rattle.checking.specs.Checked.{in_scope}
use Rattle.checking.proofs.first_left.Goals as goal

pub returns : goal.returns
unfolding in_scope
returns c = c.first_within.ensures
