-- Filling the tables by linearity. Assumes nothing.
use mathlib.Core.Path.{◌≡◌, sym, ap, ap₂, ◌∙◌}
use mathlib.Core.List.{List}
use Prim.Native.Nat.{ℕ, ◌+◌, ◌-◌, ◌*◌, ◌^◌, ◌≤◌, ◌<◌}
use native.Mathlib.Nat.{zero-mul, one-mul, not-suc-le-zero}
use native.Mathlib.Omega.{arith}
use borrow.Author.Count.{below_more}
use lib.ListN.{length, get_or, set, length-set}
use lib.Pow.{pow_mono, pow-add}
use lib.Seq.{get_or-set_same, get_or-set_other}
use lib.Bits.{bit_xor, xor_comm, xor_shifted}
use Rattle.crc64.specs.Crc.{shift, shifts}
use Rattle.crc64.specs.Internal.{entry, power, Filled}
use Rattle.crc64.proofs.Lookup.{entry_of}
use Rattle.crc64.proofs.Linear.{shifts-xor, shifts-back, shifts-add}

module _ (rule : ℕ → ℕ) (size : ℕ) (t : List ℕ) where
  -- nothing is filled yet
  pub filled_none : length t ≡ size → Filled rule size t 0
  filled_none e = record { sized = e; at = λ i h. absurd (not-suc-le-zero h) }

  -- fewer elements
  pub filled-to : (m n : ℕ) → m ≤ n → Filled rule size t n → Filled rule size t m
  filled-to m n h all = record { sized = all.sized; at = λ i l. all.at i (omega arith) }

  -- one element more
  pub filled_more : (i v : ℕ) → i < size → Filled rule size t i → v ≡ rule i → Filled rule size (set t i v) (i + 1)
  filled_more i v h all here =
      record {
        sized = length-set t i v ∙ all.sized;
        at =
            below_more (λ k. get_or (set t i v) k 0 ≡ rule k) i
            (λ k l. get_or-set_other t i k v 0 (omega arith) ∙ all.at k l)
            (get_or-set_same t i v 0 (omega arith) ∙ here);
      }

-- one shift more is the next power
pub power-next : (n : ℕ) → shift (power n) ≡ power (n + 1)
unfolding power shifts
power-next n =
    let e : 1 + (200 + n) ≡ 200 + (n + 1) = omega arith in
    sym (shifts-add 1 (200 + n) 128) ∙ ap (λ (m : ℕ). shifts m 128) e

-- a bit of a byte is at most 2^7
pub bit_le : (j : ℕ) → j < 8 → 2 ^ j ≤ 128
bit_le j h = let l : j ≤ 7 = omega arith in pow_mono l

-- a single bit's entry is a power
pub power-is : (k j : ℕ) → j < 8 → power (8 * k + 7 - j) ≡ shifts (200 + 8 * k) (2 ^ j)
unfolding power
power-is k j h =
    let e : 200 + (8 * k + 7 - j) ≡ 200 + 8 * k + (7 - j) = omega arith in
    let s : 7 ≡ j + (7 - j) = omega arith in
    ap₂ shifts e (ap (λ (m : ℕ). 2 ^ m) s ∙ pow-add 2 j (7 - j))
    ∙ shifts-add (200 + 8 * k) (7 - j) (2 ^ j * 2 ^ (7 - j))
    ∙ ap (shifts (200 + 8 * k)) (shifts-back (7 - j) (2 ^ j))

-- the entry of the byte 0 is 0
pub entry_zero : (k : ℕ) → 0 ≡ entry (256 * k)
entry_zero k =
    let e : 256 * k + 0 ≡ 256 * k = omega arith in
    let n = 200 + 8 * k in
    sym (shifts-back n 0) ∙ ap (shifts n) (zero-mul (2 ^ n)) ∙ sym (entry_of k 0 (omega arith)) ∙ ap entry e

-- the entry of a byte is that of the rest and that of its highest bit
entry-xor : (k j m x : ℕ) → j < 8 → m < 2 ^ j → x ≡ shifts (200 + 8 * k) (2 ^ j) → bit_xor (entry (256 * k + m)) x ≡ entry (256 * k + 2 ^ j + m)
entry-xor k j m x h l e =
    let small = bit_le j h in
    let n = 200 + 8 * k in
    let sum : 256 * k + (2 ^ j + m) ≡ 256 * k + 2 ^ j + m = omega arith in
    ap₂ bit_xor (entry_of k m (omega arith)) e
    ∙ xor_comm (shifts n m) (shifts n (2 ^ j))
    ∙ sym (shifts-xor n (2 ^ j) m)
    ∙ ap (shifts n) (ap (λ (y : ℕ). bit_xor y m) (sym (one-mul (2 ^ j))) ∙ xor_shifted 1 j m l ∙ ap (λ (y : ℕ). y + m) (one-mul (2 ^ j)))
    ∙ sym (entry_of k (2 ^ j + m) (omega arith))
    ∙ ap entry sum

-- one entry more of those with the highest bit 2^j
pub filled-bit : (t : List ℕ) (k j half m x : ℕ) → (k < 8) × (j < 8) × (half ≡ 2 ^ j) × (m < half)
    → x ≡ shifts (200 + 8 * k) (2 ^ j) → Filled entry 2048 t (256 * k + half + m)
    → Filled entry 2048 (set t (256 * k + half + m) (bit_xor (get_or t (256 * k + m) 0) x)) (256 * k + half + (m + 1))
filled-bit t k j half m x facts e all =
    let small = bit_le j facts.1 in
    let sum : 256 * k + 2 ^ j + m ≡ 256 * k + half + m = omega arith in
    filled-to entry 2048 _ _ (256 * k + half + m + 1) (omega arith)
    (filled_more entry 2048 t (256 * k + half + m) (bit_xor (get_or t (256 * k + m) 0) x) (omega arith) all
    (ap (λ (y : ℕ). bit_xor y x) (all.at (256 * k + m) (omega arith)) ∙ entry-xor k j m x (omega arith) (omega arith) e ∙ ap entry sum))
