-- `storing::encode` meets its contract. Assumes nothing.
use native.Mathlib.Omega.{arith}
use Prim.Native.Nat.{ℕ, ◌+◌, ◌*◌, ◌^◌, ◌≤◌, ◌<◌}
use native.Mathlib.Nat.{mul-le-mul_left}
use lib.Dec.{lit<}
use lib.Pow.{pow_mono}
use Rattle.fields.proofs.Numbers.{one_shifted}
use Rattle.format.specs.Layouts.{encode}
use Rattle.storing.proofs.encode.Goals as goal

-- the entry of a pointer whose numbers are small
fits : (k b i : ℕ) → k ≤ 32 → b < 2 ^ 32 → i < 2 ^ 32 → b * 2 ^ k + i < 18446744073709551616
fits k b i h hb hi =
    let m : b * 2 ^ k ≤ b * 2 ^ 32 = mul-le-mul_left b (pow_mono h) in
    omega arith

pub overflow_mul-result : goal.overflow_mul-result
overflow_mul-result c =
    let h = c.requires in
    rw (one_shifted _ h.0) (record { fits = omega (arith, fits _ _ 0 h.0 h.1 (lit< tt)) })

pub overflow_add-result : goal.overflow_add-result
overflow_add-result c =
    let h = c.requires in
    rw (one_shifted _ h.0) (record { fits = fits _ _ _ h.0 h.1 h.2 })

pub returns : goal.returns
unfolding encode
returns c = rw (one_shifted _ c.requires.0)
