-- `checking::first_into` meets its contract. The invariant: no address so far points into the block. Assumes nothing.
use Prim.Native.Nat.{ℕ, ◌≤◌, ◌<◌}
use Rattle.opening.specs.Images.{held}
use Rattle.checking.specs.Checked.{looked_at}
use Rattle.checking.proofs.Looked.{Into}
use Rattle.checking.proofs.first_into.Given as goal

abbrev pub invariant-loop-a : goal.invariant-loop-a
invariant-loop-a l = (l.a ≤ l.first.number.0) × ((i : ℕ) → i < l.a → ¬ Into l.image.bytes.now (held l.image) (looked_at l.image.bytes.now (held l.image) l.scope) l.b.0 i)
