-- Laws of `to_le`, `from_le` and `field`. Assumes nothing.
use mathlib.Core.Path.{◌≡◌, refl, sym, ap, ◌∙◌}
use mathlib.Core.List.{List, [], ◌∷◌}
use Prim.Native.Nat.{ℕ, zero, suc, ◌+◌, ◌-◌, ◌*◌, ◌/◌, ◌%◌, ◌^◌, ◌≤◌, ◌<◌}
use native.Mathlib.Nat.{one-mul, mod-add-div, mod-eq_of_lt, div-lt_iff_lt-mul, pow-suc, pow-le-pow_right}
use native.Mathlib.Omega.{arith}
use lib.Dec.{lit<}
use lib.ListN.{length, get_or}
use lib.Pow.{pow-lt}
use lib.Seq.{take-nil, drop-nil}
use Rattle.fields.specs.Bytes.{part, from_le, to_le, field}
use Rattle.fields.proofs.Overwrite.{part_step, part_none}
use Rattle.fields.proofs.Steps.{sub-step, sub-done}

pub length-to_le : (k v : ℕ) → length (to_le k v) ≡ k
unfolding to_le
length-to_le zero v = refl
length-to_le (suc k) v = ap suc (length-to_le k _)

pub from_le-to_le : (k v : ℕ) → v < 256 ^ k → from_le (to_le k v) ≡ v
unfolding to_le from_le
from_le-to_le zero v h = omega arith
from_le-to_le (suc k) v h =
    ap (λ (n : ℕ). v % 256 + 256 * n) (from_le-to_le k (v / 256) ((div-lt_iff_lt-mul {k = 256} (lit< tt)).1 (rw pow-suc at h)))
    ∙ mod-add-div v 256

pub field-zero : (s : List ℕ) (at : ℕ) → field s at 0 ≡ 0
unfolding field part from_le
field-zero s at = refl

-- the lowest byte of a number, and the others
pub field_step : (s : List ℕ) (at k : ℕ) → field s at (suc k) ≡ get_or s at 0 + 256 * field s (suc at) k
unfolding field part from_le
field_step [] at k = rw (drop-nil, take-nil)
field_step (b ∷ bs) zero k = refl
field_step (b ∷ bs) (suc at) k = field_step bs at k

pub field_lt : (s : List ℕ) (at k : ℕ) → ((i : ℕ) → get_or s i 0 < 256) → field s at k < 256 ^ k
field_lt s at zero h = rw field-zero (lit< tt)
field_lt s at (suc k) h = rw (field_step, pow-suc) (omega (arith, h at, field_lt s (suc at) k h))

-- the bytes of the number that bytes make are those bytes
pub to_le-field : (s : List ℕ) (at k : ℕ) → ((i : ℕ) → get_or s i 0 < 256) → at + k ≤ length s → to_le k (field s at k) ≡ part s at k
unfolding to_le
to_le-field s at zero h l = sym (part_none s at)
to_le-field s at (suc k) h l =
    let v : field s at (suc k) ≡ get_or s at 0 + 256 * field s (suc at) k = field_step s at k in
    let low : field s at (suc k) % 256 ≡ get_or s at 0 = omega (arith, h at) in
    let rest : field s at (suc k) / 256 ≡ field s (suc at) k = omega (arith, h at) in
    rw (low, rest, to_le-field s (suc at) k h (omega arith)) (sym (part_step s at k (omega arith)))

-- so bytes that make the same number are the same
pub field-same : (s t : List ℕ) (p q k : ℕ) → ((i : ℕ) → get_or s i 0 < 256) → ((i : ℕ) → get_or t i 0 < 256) → p + k ≤ length s → q + k ≤ length t
    → field s p k ≡ field t q k → part s p k ≡ part t q k
field-same s t p q k hs ht a b e = sym (to_le-field s p k hs a) ∙ ap (to_le k) e ∙ to_le-field t q k ht b

-- ---- the iterations of the loops that write and read a number

pub to_le-step : (i k v : ℕ) → i < k → to_le (k - i) v ≡ v % 256 ∷ to_le (k - (i + 1)) (v / 256)
unfolding to_le
to_le-step i k v h = rw (sub-step i k h)

pub to_le-done : (i k v : ℕ) → k ≤ i → to_le (k - i) v ≡ []
unfolding to_le
to_le-done i k v h = rw (sub-done i k h)

-- one byte more, below those read
pub field-turn : (s : List ℕ) (at k i acc : ℕ) → 0 < i → i ≤ k → acc ≡ field s (at + i) (k - i)
    → acc * 256 + get_or s (at + (i - 1)) 0 ≡ field s (at + (i - 1)) (k - (i - 1))
field-turn s at k i acc pos low e =
    let p : suc (at + (i - 1)) ≡ at + i = omega arith in
    let n : k - (i - 1) ≡ suc (k - i) = omega arith in
    rw (n, field_step, p) (omega arith)

pub pow-turn : (k i acc b : ℕ) → 0 < i → i ≤ k → acc < 256 ^ (k - i) → b < 256 → acc * 256 + b < 256 ^ (k - (i - 1))
pow-turn k i acc b pos low h hb =
    let n : k - (i - 1) ≡ suc (k - i) = omega arith in
    rw (n, pow-suc) (omega arith)

-- a number of seven bytes or fewer leaves room for one byte more
pub pow_room : (n acc : ℕ) → n ≤ 7 → acc < 256 ^ n → acc < 256 ^ 7
pow_room n acc h l = omega (arith, pow-le-pow_right {n = 256} (lit< tt) {i = n} {j = 7} h)

-- 1 shifted by k binary digits, as it is computed in 64
pub one_shifted : (k : ℕ) → k ≤ 32 → (1 * 2 ^ k) % 18446744073709551616 ≡ 2 ^ k
one_shifted k h = ap (λ (n : ℕ). n % 18446744073709551616) (one-mul (2 ^ k)) ∙ mod-eq_of_lt (pow-lt {i = k} {j = 64} (omega arith))
