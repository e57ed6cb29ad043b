-- `checking::first_unwritten` meets its contract. The invariant: every entry so far is written. Assumes nothing.
use mathlib.Core.Bool.{false}
use mathlib.Core.Path.{◌≡◌}
use Prim.Native.Nat.{ℕ, ◌-◌, ◌≤◌, ◌<◌}
use Rattle.format.specs.Reading.{not_written}
use Rattle.opening.specs.Images.{held}
use Rattle.checking.proofs.first_unwritten.Given as goal

abbrev pub invariant-loop-n : goal.invariant-loop-n
invariant-loop-n l = (l.n ≤ l.first.number.0) × ((i : ℕ) → i < l.n → not_written l.image.bytes.now (held l.image) i ≡ false)

abbrev pub decreases-loop-n : goal.decreases-loop-n
decreases-loop-n l = l.first.number.0 - l.n
