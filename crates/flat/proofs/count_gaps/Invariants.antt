-- `flat::count_gaps` meets its contract. The invariant: so many of the sectors below n are not written. Assumes nothing.
use Rattle.format.specs.Reading.{not_written}
use Rattle.opening.specs.Images.{held}
use Rattle.flat.proofs.Sectors.{Counting}
use Rattle.flat.proofs.count_gaps.Given as goal

abbrev pub invariant-loop-n : goal.invariant-loop-n
invariant-loop-n l = Counting (not_written l.image.bytes.now (held l.image)) (held l.image).count l.n l.gaps
