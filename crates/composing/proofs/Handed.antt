-- The sectors of the first entries, one more, and what becomes of them.
use mathlib.Core.List.{List, [], ◌∷◌, ◌++◌, append-nil}
use mathlib.Core.Logic.{◌≢◌, ◌⊎◌, inl, inr, ⊎_elim}
use mathlib.Core.Option.{none, some}
use mathlib.Core.Path.{◌≡◌, refl, ap, ◌∙◌}
use Prim.Native.Nat.{ℕ, zero, suc, ◌≤◌, ◌<◌}
use native.Mathlib.Nat.{le_refl, le_trans, eq-or-lt_of_le}
use native.Mathlib.Omega.{arith}
use lib.ListN.{length, length-append}
use Rattle.format.specs.declared.Pointer.{Pointer}
use Rattle.format.specs.Lists.{All, done, more}
use Rattle.format.specs.Committing.{Step, store_all}
use Rattle.format.proofs.Lists.{Sized, all_append}
use Rattle.format.proofs.Storing.{step_ok, stored_ok, stored-few}
use Rattle.storing.specs.Turns.{no_disc, add_at}
use Rattle.composing.specs.Composes.{where_any, handed, stored_of, pointer_of, pointers_of, Sectors}

-- ---- a sector, or none
pub some_or_none : (sector : List ℕ) → (length sector ≢ 0) ⊎ (length sector ≡ 0)
some_or_none [] = inr refl
some_or_none (b ∷ sector) = inl (λ e. absurd (omega arith))

module _ {A : Type 0} where
  pub where-some : (sector : List ℕ) (a : A) → length sector ≢ 0 → where_any sector a ≡ a ∷ []
  unfolding where_any
  where-some [] a h = absurd (h refl)
  where-some (b ∷ sector) a h = refl

  pub where-none : (sector : List ℕ) (a : A) → length sector ≡ 0 → where_any sector a ≡ []
  unfolding where_any
  where-none [] a h = refl
  where-none (b ∷ sector) a h = absurd (omega arith)

module _ (block : ℕ) (items : List (List ℕ)) where
  pub pointer-some : (sector : List ℕ) → length sector ≢ 0 → pointer_of block items sector ≡ some (add_at block items sector).pointer
  unfolding pointer_of
  pointer-some [] h = absurd (h refl)
  pointer-some (b ∷ sector) h = refl

  pub pointer_none : (sector : List ℕ) → length sector ≡ 0 → pointer_of block items sector ≡ none
  unfolding pointer_of
  pointer_none [] h = refl
  pointer_none (b ∷ sector) h = absurd (omega arith)

-- ---- those of the first k entries
module _ (f : ℕ → List ℕ) where
  pub handed-some : (k : ℕ) → length (f k) ≢ 0 → handed f (suc k) ≡ handed f k ++ (f k ∷ [])
  unfolding handed
  handed-some k h = ap (λ (l : List (List ℕ)). handed f k ++ l) (where-some (f k) (f k) h)

  pub handed-none : (k : ℕ) → length (f k) ≡ 0 → handed f (suc k) ≡ handed f k
  unfolding handed
  handed-none k h = ap (λ (l : List (List ℕ)). handed f k ++ l) (where-none (f k) (f k) h) ∙ append-nil (handed f k)

  handed-few : (k : ℕ) → length (handed f k) ≤ k
  unfolding handed
  handed-few zero = omega arith
  handed-few (suc k) =
      ⊎_elim (λ h. rw (handed-some k h) (simp length-append (omega (arith, handed-few k)))) (λ h. rw (handed-none k h) (omega (arith, handed-few k))) (some_or_none (f k))

  handed-sized : {size : ℕ} (k : ℕ) → ((n : ℕ) → n < k → length (f n) ≢ 0 → length (f n) ≡ size) → All (Sized size) (handed f k)
  unfolding handed
  handed-sized zero h = done
  handed-sized (suc k) h =
      let rest = handed-sized k (λ n l. h n (omega arith)) in
      ⊎_elim (λ s. rw (handed-some k s) (all_append rest (more (h k (omega arith) s) done))) (λ s. rw (handed-none k s) rest) (some_or_none (f k))

-- ---- what becomes of them
-- one more sector
stored_next : (block : ℕ) (ds st : List (List ℕ)) (d : List ℕ)
    → ((store_all [] no_disc block st (ds ++ (d ∷ []))).items ≡ (add_at block (store_all [] no_disc block st ds).items d).stored)
    × ((store_all [] no_disc block st (ds ++ (d ∷ []))).pointers ≡ (store_all [] no_disc block st ds).pointers ++ ((add_at block (store_all [] no_disc block st ds).items d).pointer ∷ []))
unfolding store_all
stored_next block [] st d = (refl, refl)
stored_next block (e ∷ ds) st d =
    let one : Step = add_at block st e in
    let ih = stored_next block ds one.stored d in
    (ih.0, ap (λ (l : List Pointer). one.pointer ∷ l) ih.1)

module _ (block : ℕ) (f : ℕ → List ℕ) where
  abbrev items : ℕ → List (List ℕ)
  items k = (stored_of block f k).items

  abbrev pointers : ℕ → List Pointer
  pointers k = (stored_of block f k).pointers

  -- what becomes of that of entry k
  abbrev pub step_of : ℕ → Step
  step_of k = add_at block (items k) (f k)

  module _ (k : ℕ) (h : length (f k) ≢ 0) where
    pub items-some : items (suc k) ≡ (step_of k).stored
    items-some = ap (λ (l : List (List ℕ)). (store_all [] no_disc block [] l).items) (handed-some f k h) ∙ (stored_next block (handed f k) [] (f k)).0

    pub pointers-some : pointers (suc k) ≡ pointers k ++ ((step_of k).pointer ∷ [])
    pointers-some = ap (λ (l : List (List ℕ)). (store_all [] no_disc block [] l).pointers) (handed-some f k h) ∙ (stored_next block (handed f k) [] (f k)).1

  module _ (k : ℕ) (h : length (f k) ≡ 0) where
    pub items-none : items (suc k) ≡ items k
    items-none = ap (λ (l : List (List ℕ)). (store_all [] no_disc block [] l).items) (handed-none f k h)

    pub pointers-none : pointers (suc k) ≡ pointers k
    pointers-none = ap (λ (l : List (List ℕ)). (store_all [] no_disc block [] l).pointers) (handed-none f k h)

  -- ---- how many are stored
  pub items-handed : (k : ℕ) → length (items k) ≤ length (handed f k)
  items-handed k = omega (arith, stored-few [] no_disc block (handed f k) [])

  pub items-few : (k : ℕ) → length (items k) ≤ k
  items-few k = omega (arith, items-handed k, handed-few f k)

  items-grow : (k : ℕ) → length (items k) ≤ length (items (suc k))
  items-grow k =
      ⊎_elim (λ h. rw (items-some k h, (step_ok [] no_disc block (Sized 0) (items k) (f k)).grown) (simp length-append (omega arith))) (λ h. rw (items-none k h) (le_refl _)) (some_or_none (f k))

  pub items-most : (k n : ℕ) → k ≤ n → length (items k) ≤ length (items n)
  items-most k zero h = let e : k ≡ 0 = omega arith in rw e (le_refl _)
  items-most k (suc n) h = ⊎_elim (λ e. rw e (le_refl _)) (λ l. le_trans (items-most k n (omega arith)) (items-grow n)) (eq-or-lt_of_le h)

  pub items-sized : {count size : ℕ} → Sectors f count size → (k : ℕ) → k ≤ count → All (Sized size) (items k)
  items-sized {count} {size} s k h = (stored_ok [] no_disc block (Sized size) (handed f k) []).keeps done (handed-sized f k (λ n l. s.sized n (omega arith)))

  pub pointers-length : (k : ℕ) → length (pointers_of block f k) ≡ k
  unfolding pointers_of
  pointers-length zero = refl
  pointers-length (suc k) = length-append (pointers_of block f k) _ ∙ omega (arith, pointers-length k)
