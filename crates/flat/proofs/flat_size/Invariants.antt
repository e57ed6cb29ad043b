-- `flat::flat_size` meets its contract. The invariant: the sectors below n are not written. Assumes nothing.
use mathlib.Core.Path.{◌≡◌}
use Prim.Native.Nat.{◌-◌}
use Rattle.format.specs.Exporting.{size_from, flat_size}
use Rattle.opening.specs.Images.{held}
use Rattle.flat.proofs.flat_size.Given as goal

abbrev pub invariant-loop-n : goal.invariant-loop-n
invariant-loop-n l = size_from l.image.bytes.now (held l.image) ((held l.image).count - l.n) l.n ≡ flat_size l.image.bytes.now (held l.image)
