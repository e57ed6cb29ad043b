-- `checking::first_form` meets its contract. The invariant: every address so far passes. Assumes nothing.
use mathlib.Core.Path.{◌≡◌}
use Prim.Native.Nat.{ℕ, ◌≤◌, ◌<◌}
use Rattle.std.specs.Prelude.{Ok}
use Rattle.opening.specs.Images.{held}
use Rattle.checking.specs.Checked.{looked_at, indexed, Formed, looked_verdict}
use Rattle.checking.proofs.first_form.Given as goal

abbrev pub invariant-loop-a : goal.invariant-loop-a
invariant-loop-a l =
    (l.a ≤ (held l.image).count) × ((i : ℕ) → i < l.a → looked_verdict l.image.bytes.now (held l.image) (looked_at l.image.bytes.now (held l.image) l.scope) (indexed l.image.bytes.now) i ≡ Ok tt) × Formed l.image.bytes.now l.known
