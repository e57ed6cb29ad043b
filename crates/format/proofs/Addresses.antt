-- The address list of a commit: what is handed in for an address of it, and for every other.
use mathlib.Core.Bool.{true, false}
use mathlib.Core.List.{List, [], ◌∷◌}
use mathlib.Core.Logic.Iff
use mathlib.Core.Logic.{◌≢◌}
use mathlib.Core.Option.{none, some}
use mathlib.Core.Path.{◌≡◌, refl, sym, ap, ◌∙◌}
use Prim.Native.Nat.{ℕ, zero, suc, ◌<◌}
use native.Mathlib.Nat.{not-suc-le-zero, le_of_suc-le-suc}
use native.Mathlib.Omega.{arith}
use lib.ListN.{length, get_or, length-map}
use lib.IntN.{ℤ, pos}
use Rattle.format.specs.Lists.{All, done, more}
use Rattle.format.specs.Tests.{below, less_than}
use Rattle.format.specs.Opening.{Opened}
use Rattle.format.specs.Reading.{outside, entry_number}
use Rattle.format.specs.Committing.{rising_by, rising, any_outside, entry_numbers, given}
use Rattle.format.proofs.Lists.{get_d_map}
use Rattle.format.proofs.Numbers.{inside-flat}
use Rattle.format.proofs.Tests.{below_on, same_true, same-iff, or-iff, and-on, and-true, choose-true, choose-false}

rising-tail : (a : ℕ) (l : List ℕ) → rising_by below (a ∷ l) ≡ true → rising_by below l ≡ true
unfolding rising_by
rising-tail a [] h = refl
rising-tail a (b ∷ l) h = (and-on _ _ h).1

rising-below : (a : ℕ) (l : List ℕ) (i : ℕ) → rising_by below (a ∷ l) ≡ true → i < length l → a < get_or l i 0
unfolding rising_by
rising-below a [] i h k = absurd (not-suc-le-zero k)
rising-below a (b ∷ l) zero h k = below_on _ _ (and-on _ _ h).0
rising-below a (b ∷ l) (suc i) h k =
    let r = and-on _ _ h in
    let ab : a < b = below_on _ _ r.0 in
    let bc : b < get_or l i 0 = rising-below b l i r.1 (le_of_suc-le-suc k) in
    omega arith

-- an address of the list
pub given-named : {A : Type 0} (d : A) (l : List ℕ) (ys : List A) (i : ℕ) → rising_by below l ≡ true → i < length l → i < length ys
    → given l ys (get_or l i 0) ≡ some (get_or ys i d)
unfolding given
given-named d [] ys i h k m = absurd (not-suc-le-zero k)
given-named d (a ∷ l) [] i h k m = absurd (not-suc-le-zero m)
given-named d (a ∷ l) (y ∷ ys) zero h k m = choose-true _ _ _ (same_true a a refl)
given-named d (a ∷ l) (y ∷ ys) (suc i) h k m =
    let lt : a < get_or l i 0 = rising-below a l i h (le_of_suc-le-suc k) in
    choose-false _ _ _ ((same-iff {a = a} {b = get_or l i 0}).1 (λ e. absurd (omega arith)))
    ∙ given-named d l ys i (rising-tail a l h) (le_of_suc-le-suc k) (le_of_suc-le-suc m)

-- every other address
pub given-other : {A : Type 0} (a : ℕ) (l : List ℕ) (ys : List A) → All (λ (b : ℕ). b ≢ a) l → given l ys a ≡ none
unfolding given
given-other a _ ys done = refl
given-other a _ [] (more h hs) = refl
given-other a _ (y ∷ ys) (more {a = b} {l = l} h hs) = choose-false _ _ _ (same-iff.1 h) ∙ given-other a l ys hs

-- ---- the numbers of their table entries
pub inside-each : (t : Opened) (l : List ℤ) → any_outside t l ≡ false → All (λ (a : ℤ). outside t a ≡ false) l
unfolding any_outside
inside-each t [] h = done
inside-each t (a ∷ l) h = let r = (or-iff Iff.rfl Iff.rfl).0 h in more r.0 (inside-each t l r.1)

pub each-inside : (t : Opened) (l : List ℤ) → All (λ (a : ℤ). outside t a ≡ false) l → any_outside t l ≡ false
unfolding any_outside
each-inside t _ done = refl
each-inside t _ (more {l = l} h hs) = (or-iff Iff.rfl Iff.rfl).1 (h, each-inside t l hs)

pub length-numbers : (t : Opened) (l : List ℤ) → length (entry_numbers t l) ≡ length l
unfolding entry_numbers
length-numbers t l = length-map l (entry_number t)

-- an address of the list
pub number_at : (t : Opened) (l : List ℤ) (i : ℕ) → i < length l → get_or (entry_numbers t l) i 0 ≡ entry_number t (get_or l i (pos 0))
unfolding entry_numbers
number_at t l i h = get_d_map (entry_number t) l i (pos 0) 0 h

-- where the lowest address is 0, addresses that are inside are these numbers, which rise too
module _ (t : Opened) (flat : t.negative ≡ 0) where
  less-below : (n m : ℕ) → less_than (pos n) (pos m) ≡ below n m
  unfolding less_than below
  less-below n m = refl

  pub numbers-rise : (l : List ℤ) → any_outside t l ≡ false → rising l ≡ true → rising_by below (entry_numbers t l) ≡ true
  unfolding rising_by entry_numbers any_outside
  numbers-rise [] h r = refl
  numbers-rise (a ∷ []) h r = refl
  numbers-rise (a ∷ b ∷ l) h r =
      let i = (or-iff Iff.rfl Iff.rfl).0 h in
      let j = (or-iff Iff.rfl Iff.rfl).0 i.1 in
      let q = and-on _ _ r in
      let ea : a ≡ pos (entry_number t a) = inside-flat t flat a i.0 in
      let eb : b ≡ pos (entry_number t b) = inside-flat t flat b j.0 in
      and-true _ _ (sym (less-below _ _) ∙ sym (λ k. less_than (ea k) (eb k)) ∙ q.0) (numbers-rise (b ∷ l) i.1 q.1)

  -- every other address has another table entry
  pub numbers-other : (a : ℤ) → outside t a ≡ false → (l : List ℤ) → any_outside t l ≡ false → All (λ (b : ℤ). b ≢ a) l
      → All (λ (n : ℕ). n ≢ entry_number t a) (entry_numbers t l)
  unfolding entry_numbers any_outside
  numbers-other a f [] h done = done
  numbers-other a f (b ∷ l) h (more k ks) =
      let i = (or-iff Iff.rfl Iff.rfl).0 h in
      more (λ e. k (inside-flat t flat b i.0 ∙ ap pos e ∙ sym (inside-flat t flat a f))) (numbers-other a f l i.1 ks)
