-- The loop that compares each address with the one before it. What is left from place k - 1 on gives what the whole list gives.
use mathlib.Core.Bool.{Bool, true, false}
use mathlib.Core.List.{List, [], ◌∷◌}
use mathlib.Core.Path.{◌≡◌, refl, sym, ap, ◌∙◌}
use Prim.Native.Nat.{ℕ, suc, ◌+◌, ◌-◌, ◌^◌, ◌≤◌, ◌<◌}
use native.Mathlib.Omega.{arith}
use lib.IntN.{ℤ, pos, negsuc}
use lib.ListN.{length, drop, get_or, length-drop}
use lib.Seq.{drop-cons}
use lib.Signed.{lt_z, le_z, mag}
use borrow.Author.Tests.{leb-true, leb-false, lt-ltb, le-ltb}
use Rattle.fields.proofs.Signs.{again, read_back}
use Rattle.format.specs.Tests.{less_than, ◌and◌}
use Rattle.format.specs.Committing.{rising_by, rising}

-- ---- the order of signed numbers
le-nlt : (x y : ℤ) → le_z x y ≡ true → lt_z y x ≡ false
le-nlt (pos a) (pos b) e = le-ltb b a (leb-true a b e)
le-nlt (pos a) (negsuc b) e = sym e
le-nlt (negsuc a) (pos b) e = refl
le-nlt (negsuc a) (negsuc b) e = le-ltb a b (leb-true b a e)

nle-lt : (x y : ℤ) → le_z x y ≡ false → lt_z y x ≡ true
nle-lt (pos a) (pos b) e = lt-ltb b a (leb-false a b e)
nle-lt (pos a) (negsuc b) e = refl
nle-lt (negsuc a) (pos b) e = sym e
nle-lt (negsuc a) (negsuc b) e = lt-ltb a b (leb-false b a e)

-- ---- the loop
unfoldable pub remaining : List ℤ → ℕ → Bool
remaining l k = rising (drop (k - 1) l)

-- no two are left
short : (l : List ℤ) → length l ≤ 1 → rising l ≡ true
unfolding rising_by
short [] h = refl
short (a ∷ []) h = refl
short (a ∷ b ∷ l) h = absurd (omega arith)

pub rising-start : (l : List ℤ) → remaining l 1 ≡ rising l
unfolding remaining
rising-start l = refl

module _ (l : List ℤ) (k : ℕ) (left : remaining l k ≡ rising l) where
  abbrev x : ℤ
  x = get_or l (k - 1) (pos 0)

  abbrev y : ℤ
  y = get_or l k (pos 0)

  module _ (low : 0 < k) (inside : k < length l) where
    -- at an iteration there are two addresses to compare
    two : remaining l k ≡ (lt_z x y and rising (drop k l))
    unfolding remaining rising_by less_than
    two =
        let e : suc (k - 1) ≡ k = omega arith in
        let a : drop (k - 1) l ≡ x ∷ drop k l = drop-cons l (k - 1) (pos 0) (omega arith) ∙ ap (λ (n : ℕ). x ∷ drop n l) e in
        let b : drop k l ≡ y ∷ drop (suc k) l = drop-cons l k (pos 0) inside in
        rw (a, b)

    module _ (f : mag x < 2 ^ 63) (g : mag y < 2 ^ 63) where
      test : le_z (again y) (again x) ≡ le_z y x
      test = rw (read_back x f, read_back y g)

      -- the second is not above the first
      pub rising-stops : le_z (again y) (again x) ≡ true → false ≡ rising l
      unfolding ◌and◌
      rising-stops t = sym (two ∙ ap (λ (b : Bool). b and rising (drop k l)) (le-nlt y x (sym test ∙ t))) ∙ left

      -- it is: on to the next
      pub rising-goes : le_z (again y) (again x) ≡ false → remaining l (k + 1) ≡ rising l
      unfolding remaining ◌and◌
      rising-goes t =
          let e : k + 1 - 1 ≡ k = omega arith in
          ap (λ (n : ℕ). rising (drop n l)) e
          ∙ sym (two ∙ ap (λ (b : Bool). b and rising (drop k l)) (nle-lt y x (sym test ∙ t))) ∙ left

  pub rising-done : length l ≤ k → true ≡ rising l
  unfolding remaining
  rising-done h = sym (short (drop (k - 1) l) (simp length-drop (omega arith))) ∙ left
