-- Signed addresses and the numbers of their table entries: an address is inside exactly if address + `negative` is a number below the count.
use mathlib.Core.Bool.{Bool, true, false, not}
use mathlib.Core.Path.{◌≡◌, refl, sym, ap, ◌∙◌}
use Prim.Native.Nat.{ℕ, suc, ◌+◌, ◌-◌, ◌≤◌, ◌<◌}
use native.Mathlib.Omega.{arith}
use lib.Dec.{ltb}
use lib.IntN.{ℤ, pos, negsuc, neg_ℤ, nat_abs, ◌+ℤ◌, ◌-ℤ◌, +ℤ_idr, +ℤ_comm, +ℤ-neg_ℤ_cancel, -ℤ-+ℤ_cancel}
use lib.Signed.{lt_z}
use borrow.Author.Tests.{ltb-true, lt-ltb, le-ltb}
use Rattle.format.specs.Tests.{less_than, ◌or◌}
use Rattle.format.specs.Opening.{Opened}
use Rattle.format.specs.Reading.{displaced, outside, entry_number}
use Rattle.format.proofs.Tests.{never, not_iff}

-- an address of this entry
pub record Numbered (t : Opened) (a : ℤ) (n : ℕ) : Type 0 where
  pub is : displaced t a ≡ pos n
  pub inside : n < t.count

low : (z : ℤ) (count : ℕ) → (less_than z (pos 0) or not (less_than z (pos count))) ≡ false → (z ≡ pos (nat_abs z)) × (nat_abs z < count)
unfolding less_than ◌or◌
low (pos n) count h = go (ltb n 0) refl h
  where
    go : (b : Bool) → ltb n 0 ≡ b → (b or not (ltb n count)) ≡ false → (pos n ≡ pos n) × (n < count)
    go true e q = absurd (omega (arith, ltb-true n 0 e))
    go false e q = (refl, ltb-true n count (not_iff.0 q))
low (negsuc n) count h = absurd (never refl h)

high : (n count : ℕ) → n < count → (less_than (pos n) (pos 0) or not (less_than (pos n) (pos count))) ≡ false
unfolding less_than ◌or◌
high n count h = rw (le-ltb n 0 (omega arith), lt-ltb n count h)

module _ (t : Opened) (a : ℤ) where
  pub inside-number : outside t a ≡ false → Numbered t a (entry_number t a)
  unfolding outside entry_number
  inside-number h = let k = low (displaced t a) t.count h in record { is = k.0; inside = k.1 }

  pub number-inside : (n : ℕ) → Numbered t a n → outside t a ≡ false
  unfolding outside
  number-inside n k = rw k.is (high n t.count k.inside)

  pub number_is : (n : ℕ) → Numbered t a n → entry_number t a ≡ n
  unfolding entry_number
  number_is n k = ap nat_abs k.is

  pub numbered-at : (n : ℕ) → displaced t a ≡ pos n → n < t.count → (outside t a ≡ false) × (entry_number t a ≡ n) × (n < t.count)
  numbered-at n e h = let k : Numbered t a n = record { is = e; inside = h } in (number-inside n k, number_is n k, h)

  pub past-outside : (n : ℕ) → displaced t a ≡ pos n → t.count ≤ n → outside t a ≡ true
  unfolding outside less_than ◌or◌
  past-outside n e h = rw (e, le-ltb n 0 (omega arith), le-ltb n t.count h)

  pub below-outside : (n : ℕ) → displaced t a ≡ negsuc n → outside t a ≡ true
  unfolding outside less_than ◌or◌
  below-outside n e = rw e

-- ---- the sum by the sign of the address, which is so far from 0
module _ (m : ℕ) where
  sum-up : (a : ℤ) → lt_z a (pos 0) ≡ false → a +ℤ pos m ≡ pos (nat_abs a + m)
  sum-up (pos n) s = refl
  sum-up (negsuc n) s = absurd (never refl s)

  sum-down : (a : ℤ) → lt_z a (pos 0) ≡ true → nat_abs a ≤ m → a +ℤ pos m ≡ pos (m - nat_abs a)
  sum-down (pos n) s h = absurd (omega (arith, ltb-true n 0 s))
  sum-down (negsuc n) s h = rw (le-ltb m (suc n) h)

  sum_below : (a : ℤ) → lt_z a (pos 0) ≡ true → m < nat_abs a → lt_z (a +ℤ pos m) (pos 0) ≡ true
  sum_below (pos n) s h = absurd (omega (arith, ltb-true n 0 s))
  sum_below (negsuc n) s h = rw (lt-ltb m (suc n) h)

module _ (t : Opened) (a : ℤ) {n : ℕ} (far : n ≡ nat_abs a) where
  pub displaced-up : lt_z a (pos 0) ≡ false → displaced t a ≡ pos (n + t.negative)
  unfolding displaced
  displaced-up s = rw far (sum-up t.negative a s)

  pub displaced-down : lt_z a (pos 0) ≡ true → n ≤ t.negative → displaced t a ≡ pos (t.negative - n)
  unfolding displaced
  displaced-down s h = rw far (sum-down t.negative a s (omega arith))

  pub displaced-below : lt_z a (pos 0) ≡ true → t.negative < n → outside t a ≡ true
  unfolding outside displaced less_than ◌or◌
  displaced-below s h = rw (sum_below t.negative a s (omega arith))

-- ---- an address that is d from the lowest, and no other: that of table entry n is n above it
module _ (t : Opened) where
  pub address-displaced : (a d : ℤ) → a ≡ neg_ℤ (pos t.negative) +ℤ d → displaced t a ≡ d
  unfolding displaced
  address-displaced a d e =
      ap (λ (z : ℤ). z +ℤ pos t.negative) (e ∙ +ℤ_comm (neg_ℤ (pos t.negative)) d) ∙ -ℤ-+ℤ_cancel d (pos t.negative)

  pub displaced-same : (a b : ℤ) → displaced t a ≡ displaced t b → a ≡ b
  unfolding displaced
  displaced-same a b e =
      sym (+ℤ-neg_ℤ_cancel a (pos t.negative)) ∙ ap (λ (z : ℤ). z -ℤ pos t.negative) e ∙ +ℤ-neg_ℤ_cancel b (pos t.negative)

-- ---- where the lowest address is 0, as in a table of the first kind
module _ (t : Opened) (flat : t.negative ≡ 0) where
  displaced-flat : (a : ℤ) → displaced t a ≡ a
  unfolding displaced
  displaced-flat a = rw flat (+ℤ_idr a)

  -- an address inside is its entry's number
  pub inside-flat : (a : ℤ) → outside t a ≡ false → a ≡ pos (entry_number t a)
  inside-flat a h = sym (displaced-flat a) ∙ (inside-number t a h).is

-- two tables with the same lowest address and count
module _ (t u : Opened) (low_same : t.negative ≡ u.negative) (count_same : t.count ≡ u.count) (a : ℤ) where
  pub outside-alike : outside t a ≡ outside u a
  unfolding outside displaced
  outside-alike = rw (low_same, count_same)

  pub number-alike : entry_number t a ≡ entry_number u a
  unfolding entry_number displaced
  number-alike = rw low_same
