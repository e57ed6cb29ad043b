-- `flat::sizes_verdict` meets its contract. The invariant: the written sectors so far have the lowest one's size. Assumes nothing.
use mathlib.Core.Path.{◌≡◌}
use Prim.Native.Nat.{ℕ, ◌<◌}
use Rattle.std.specs.Prelude.{Ok}
use Rattle.format.specs.Exporting.{size_verdict}
use Rattle.opening.specs.Images.{held}
use Rattle.flat.proofs.sizes_verdict.Given as goal

abbrev pub invariant-loop-n : goal.invariant-loop-n
invariant-loop-n l = (i : ℕ) → i < l.n → size_verdict l.image.bytes.now (held l.image) i ≡ Ok tt
