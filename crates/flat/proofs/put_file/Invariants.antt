-- `flat::put_file` meets its contract. Assumes nothing.
use Rattle.opening.specs.Images.{held}
use Rattle.flat.proofs.Sectors.{Going}
use Rattle.flat.proofs.put_file.Given as goal

abbrev pub invariant-loop-n : goal.invariant-loop-n
invariant-loop-n l = Going l.image.bytes.now (held l.image) l.size l.initial.out l.out l.at l.n
