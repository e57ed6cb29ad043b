-- The addresses of a commit against the table: what is left from the k-th on gives what all give.
use mathlib.Core.Bool.{Bool, true, false}
use mathlib.Core.List.{List}
use mathlib.Core.Path.{◌≡◌, refl, sym, ap, ◌∙◌}
use Prim.Native.Nat.{ℕ, suc, ◌+◌, ◌^◌, ◌≤◌, ◌<◌}
use native.Mathlib.Omega.{arith}
use lib.IntN.{ℤ, pos}
use lib.ListN.{length, drop, get_or, drop_of_length-le}
use lib.Seq.{drop-cons}
use lib.Signed.{mag}
use Rattle.format.specs.Tests.{◌or◌}
use Rattle.format.specs.Opening.{Opened}
use Rattle.format.specs.Reading.{outside}
use Rattle.format.specs.Committing.{any_outside}
use Rattle.fields.proofs.Signs.{again, read_back}
use Rattle.format.proofs.Tests.{or-true-left, or-rest}

unfoldable pub outside_from : Opened → List ℤ → ℕ → Bool
outside_from t l k = any_outside t (drop k l)

pub outside-start : (t : Opened) (l : List ℤ) → outside_from t l 0 ≡ any_outside t l
unfolding outside_from
outside-start t l = refl

module _ (t : Opened) (l : List ℤ) (k : ℕ) {b : Bool} (all : outside_from t l k ≡ b) where
  next : k < length l → outside_from t l k ≡ (outside t (get_or l k (pos 0)) or outside_from t l (k + 1))
  unfolding outside_from any_outside
  next h =
      let e : suc k ≡ k + 1 = omega arith in
      ap (any_outside t) (drop-cons l k (pos 0) h) ∙ ap (λ n. outside t (get_or l k (pos 0)) or any_outside t (drop n l)) e

  -- the address as the machine reads it
  module _ (h : k < length l) (f : mag (get_or l k (pos 0)) < 2 ^ 63) where
    pub outside-found : true ≡ outside t (again (get_or l k (pos 0))) → true ≡ b
    outside-found o = sym (next h ∙ or-true-left _ _ (sym (o ∙ ap (outside t) (read_back _ f)))) ∙ all

    pub outside-goes : false ≡ outside t (again (get_or l k (pos 0))) → outside_from t l (k + 1) ≡ b
    outside-goes o = sym (next h ∙ or-rest _ (sym (o ∙ ap (outside t) (read_back _ f)))) ∙ all

  pub outside-done : length l ≤ k → false ≡ b
  unfolding outside_from any_outside
  outside-done h = sym (ap (any_outside t) (drop_of_length-le l h)) ∙ all
