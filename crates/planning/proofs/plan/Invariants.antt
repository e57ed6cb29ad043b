-- `planning::plan` meets its contract. The invariant: what is planned so far and what is left give the whole. Assumes nothing.
use Prim.Native.Nat.{◌-◌}
use Rattle.format.specs.Committing.{entry_numbers}
use Rattle.opening.specs.Images.{held}
use Rattle.planning.proofs.Progress.{Planning}
use Rattle.planning.proofs.plan.Given as goal

abbrev pub invariant-loop-a : goal.invariant-loop-a
invariant-loop-a l = Planning l.image.bytes.now (held l.image) (entry_numbers (held l.image) l.addresses) l.size l.sectors l.a l.k l.stored l.largest

abbrev pub decreases-loop-a : goal.decreases-loop-a
decreases-loop-a l = l.image.found.count - l.a
