-- No pointer of either kind wraps: 64 bits without an alignment, or 28 bits with one of 32 at most. Assumes nothing.
use mathlib.Core.Path.{◌≡◌, refl}
use Prim.Native.Nat.{ℕ, ◌*◌, ◌/◌, ◌%◌, ◌^◌, ◌≤◌, ◌<◌}
use native.Mathlib.Nat.{div-le_self, le_trans, lt_of_le_of_lt, mul-le-mul_left, mul-le-mul_right, mod-lt, mul-one}
use native.Mathlib.Omega.{arith}
use lib.Dec.{lit<}
use lib.Pow.{pow_mono, pow_pos}
use Rattle.format.specs.declared.TableKind.{TableKind}
use Rattle.format.specs.declared.TableKind.TheVariants.{First, Second}
use Rattle.format.specs.Layouts.{entry_pointer}

pub no_wrap : (k : TableKind) (entry shift alignment : ℕ) → entry < 2 ^ 64 → alignment ≤ 32 → (k ≡ First → alignment ≡ 0)
    → entry_pointer k entry / 2 ^ shift * 2 ^ alignment < 2 ^ 64
unfolding entry_pointer
no_wrap First entry shift alignment e h f = rw (f refl, mul-one) (lt_of_le_of_lt (div-le_self entry (2 ^ shift)) e)
no_wrap Second entry shift alignment e h f =
    let p : ℕ = entry % 2 ^ 28 in
    let q : p / 2 ^ shift ≤ p = div-le_self p (2 ^ shift) in
    let s : p < 2 ^ 28 = mod-lt entry (pow_pos 28) in
    let m : 2 ^ alignment ≤ 2 ^ 32 = pow_mono h in
    let x : p / 2 ^ shift * 2 ^ alignment ≤ 2 ^ 28 * 2 ^ alignment = mul-le-mul_right (2 ^ alignment) (omega arith) in
    let y : 2 ^ 28 * 2 ^ alignment ≤ 2 ^ 28 * 2 ^ 32 = mul-le-mul_left (2 ^ 28) m in
    lt_of_le_of_lt (le_trans x y) (lit< tt)
