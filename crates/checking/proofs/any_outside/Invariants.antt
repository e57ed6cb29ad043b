-- `checking::any_outside` meets its contract. The invariant: what is left gives what all gives. Assumes nothing.
use mathlib.Core.Path.{◌≡◌}
use Rattle.format.specs.Committing.{any_outside}
use Rattle.opening.specs.Answers.{contents}
use Rattle.checking.proofs.Outside.{outside_from}
use Rattle.checking.proofs.any_outside.Given as goal

abbrev pub invariant-loop-a : goal.invariant-loop-a
invariant-loop-a l = outside_from (contents l.t) l.addresses l.a-index ≡ any_outside (contents l.t) l.addresses
