-- `checking::first_refused` meets its contract. Assumes nothing.
use mathlib.Core.Path.{refl}
use Rattle.checking.specs.Checked.{in_scope}
use Rattle.checking.proofs.Whole.{all-within}
use Rattle.checking.proofs.first_refused.Goals as goal

pub returns : goal.returns
unfolding in_scope
returns c = all-within _ _ _ (λ a. refl) c.first_within.ensures
