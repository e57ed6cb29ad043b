-- Shifts are linear over exclusive or, so a register's parts can be shifted apart. Assumes nothing.
use mathlib.Core.Path.{◌≡◌, refl, sym, ap, ap₂, ◌∙◌}
use Prim.Native.Nat.{ℕ, zero, suc, ◌+◌, ◌*◌, ◌/◌, ◌%◌, ◌^◌}
use native.Mathlib.Nat.{mod-lt, add-zero, mul-one, add-suc}
use lib.Pow.{pow_pos, split}
use lib.Bits.{bit_xor, xor_shr, xor_mod, xor_shifted, shifted_half, shifted_even}
use Rattle.crc64.specs.Crc.{polynomial, reduce, shift, shifts}
use Rattle.crc64.proofs.Xor.{Bit, b0, b1, odd, xor_assoc, xor-swap, xor-twice}

reduce-xor : {x y : ℕ} → Bit x → Bit y → (h k : ℕ) → reduce (bit_xor x y) (bit_xor h k) ≡ bit_xor (reduce x h) (reduce y k)
unfolding reduce
reduce-xor b0 b0 h k = refl
reduce-xor b0 b1 h k = xor_assoc h k polynomial
reduce-xor b1 b0 h k = xor-swap h k polynomial
reduce-xor b1 b1 h k = sym (xor-twice h k polynomial)

shift-xor : (a b : ℕ) → shift (bit_xor a b) ≡ bit_xor (shift a) (shift b)
unfolding shift
shift-xor a b = ap₂ reduce (xor_mod a b 1) (xor_shr a b 1) ∙ reduce-xor (odd a) (odd b) (a / 2) (b / 2)

pub shifts-xor : (n a b : ℕ) → shifts n (bit_xor a b) ≡ bit_xor (shifts n a) (shifts n b)
unfolding shifts
shifts-xor zero a b = refl
shifts-xor (suc n) a b = ap (shifts n) (shift-xor a b) ∙ shifts-xor n (shift a) (shift b)

-- a number that was shifted left comes back
pub shifts-back : (n a : ℕ) → shifts n (a * 2 ^ n) ≡ a
unfolding shifts shift reduce
shifts-back zero a = mul-one a
shifts-back (suc n) a = ap (shifts n) (ap₂ reduce (shifted_even a n) (shifted_half a n)) ∙ shifts-back n a

-- the high part moves down, and the low n bits are shifted by themselves
pub shifts-split : (n x : ℕ) → shifts n x ≡ bit_xor (x / 2 ^ n) (shifts n (x % 2 ^ n))
shifts-split n x =
    ap (shifts n) (sym (xor_shifted (x / 2 ^ n) n (x % 2 ^ n) (mod-lt x (pow_pos n)) ∙ split x n))
    ∙ shifts-xor n (x / 2 ^ n * 2 ^ n) (x % 2 ^ n)
    ∙ ap (λ (y : ℕ). bit_xor y (shifts n (x % 2 ^ n))) (shifts-back n (x / 2 ^ n))

pub shifts-add : (m n x : ℕ) → shifts (m + n) x ≡ shifts m (shifts n x)
unfolding shifts
shifts-add m zero x = ap (λ (k : ℕ). shifts k x) (add-zero m)
shifts-add m (suc n) x = ap (λ (k : ℕ). shifts k x) (add-suc m n) ∙ shifts-add m n (shift x)
