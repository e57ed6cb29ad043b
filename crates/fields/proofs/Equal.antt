-- Laws of `equal`. Assumes nothing.
use mathlib.Core.Path.{◌≡◌, refl, sym, ap, ◌∙◌}
use mathlib.Core.Bool.{Bool, true, false, ◌&&◌, true≢false}
use mathlib.Core.List.{List, [], ◌∷◌}
use mathlib.Core.Logic.{◌↔◌}
use Prim.Native.Nat.{ℕ, ◌+◌, ◌≤◌, ◌<◌}
use native.Mathlib.Omega.{arith}
use lib.Dec.{eqb}
use lib.ListN.{length, get_or}
use borrow.Author.Tests.{eqb-true, eq-eqb, ne_eqb}
use Rattle.std.specs.Cmp.Lexicographic.{pointwise}
use Rattle.fields.specs.Bytes.{part, from_le, field, equal}
use Rattle.fields.proofs.Numbers.{field-same}
use Rattle.fields.proofs.Overwrite.{part-whole}

-- both tests of a pair passed
both : (a b : Bool) → a && b ≡ true → (a ≡ true) × (b ≡ true)
both true b e = (refl, e)
both false b e = absurd (true≢false (sym e))

-- equal lists are the same list
pub equal-true : (xs ys : List ℕ) → equal xs ys ≡ true → xs ≡ ys
unfolding equal
equal-true [] [] e = refl
equal-true [] (y ∷ ys) e = absurd (true≢false (sym e))
equal-true (x ∷ xs) [] e = absurd (true≢false (sym e))
equal-true (x ∷ xs) (y ∷ ys) e =
    let b = both (eqb x y) (equal xs ys) e in
    ap (λ (n : ℕ). n ∷ xs) (eqb-true x y b.0) ∙ ap (λ (l : List ℕ). y ∷ l) (equal-true xs ys b.1)

-- a list is equal to itself
pub equal-refl : (xs : List ℕ) → equal xs xs ≡ true
unfolding equal
equal-refl [] = refl
equal-refl (x ∷ xs) = ap (λ (b : Bool). b && equal xs xs) (eq-eqb x x refl) ∙ equal-refl xs

-- so the test says yes exactly of the same list
pub equal-iff : {xs ys : List ℕ} → (equal xs ys ≡ true) ↔ (xs ≡ ys)
equal-iff {xs} {ys} = (equal-true xs ys, λ e. ap (equal xs) (sym e) ∙ equal-refl xs)

-- ---- byte by byte

pub equal-step : (x y : ℕ) (xs ys : List ℕ) → x ≡ y → equal (x ∷ xs) (y ∷ ys) ≡ equal xs ys
unfolding equal
equal-step x y xs ys e = ap (λ (b : Bool). b && equal xs ys) (eq-eqb x y e)

pub equal-stop : (x y : ℕ) (xs ys : List ℕ) → (x ≡ y → ⊥) → equal (x ∷ xs) (y ∷ ys) ≡ false
unfolding equal
equal-stop x y xs ys h = ap (λ (b : Bool). b && equal xs ys) (ne_eqb x y h)

-- as the library compares slices
pub equal_pointwise : (xs ys : List ℕ) → pointwise eqb xs ys ≡ equal xs ys
unfolding equal
equal_pointwise [] [] = refl
equal_pointwise [] (y ∷ ys) = refl
equal_pointwise (x ∷ xs) [] = refl
equal_pointwise (x ∷ xs) (y ∷ ys) = ap (λ (b : Bool). eqb x y && b) (equal_pointwise xs ys)

-- ---- as numbers
pub equal-numbers : (s : List ℕ) (at : ℕ) (t : List ℕ) → ((i : ℕ) → get_or s i 0 < 256) → ((i : ℕ) → get_or t i 0 < 256) → at + length t ≤ length s
    → eqb (field s at (length t)) (field t 0 (length t)) ≡ equal (part s at (length t)) t
unfolding field
equal-numbers s at t hs ht h = by (equal (part s at (length t)) t) refl
  where
    by : (b : Bool) → equal (part s at (length t)) t ≡ b → eqb (field s at (length t)) (field t 0 (length t)) ≡ equal (part s at (length t)) t
    by true e = eq-eqb _ _ (ap from_le (equal-true _ t e ∙ sym (part-whole t))) ∙ sym e
    by false e =
        ne_eqb _ _
        (λ n. true≢false (sym (equal-iff.1 (field-same s t at 0 (length t) hs ht h (omega arith) n ∙ part-whole t)) ∙ e)) ∙ sym e
