-- Counting the sectors that are stored: each that equals none before it.
use mathlib.Core.List.{List, [], ◌∷◌}
use mathlib.Core.Logic.{◌≢◌, inl, inr, ⊎_elim, ⊎_map, ◌↔◌}
use mathlib.Core.Option.{Option, none, some}
use mathlib.Core.Path.{◌≡◌, refl, sym, ap, ◌∙◌}
use Prim.Native.Nat.{ℕ, zero, suc, ◌+◌, ◌<◌}
use native.Mathlib.Nat.{eq-or-lt_of_le}
use native.Mathlib.Numerals.{add-one}
use native.Mathlib.Omega.{arith}
use lib.ListN.{length, length-append}
use Rattle.format.specs.Committing.{among_stored, Step, store_all}
use Rattle.format.proofs.Storing.{Among, among_stored-found, among-some, among_none}
use Rattle.planning.proofs.Seen.{among-more, step-among}
use Rattle.storing.specs.Turns.{no_disc, add_at}
use Rattle.storing.proofs.Steps.{nowhere, add-again, add-new}
use Rattle.composing.specs.Composes.{handed, stored_of}
use Rattle.composing.proofs.Handed.{some_or_none, handed-some, handed-none, items-some, items-none, items-most}

-- ---- a sector that is among those before it, or not
module _ (block : ℕ) (st : List (List ℕ)) (d : List ℕ) where
  add-old : Among st d → (add_at block st d).stored ≡ st
  add-old a = go (among_stored st d) refl
    where
      go : (u : Option ℕ) → among_stored st d ≡ u → (add_at block st d).stored ≡ st
      go (some j) e = ap (λ (s : Step). s.stored) (add-again block st d e)
      go none e = absurd (among_none st d e a)

  add-fresh : ¬ Among st d → length (add_at block st d).stored ≡ length st + 1
  add-fresh n = go (among_stored st d) refl
    where
      go : (u : Option ℕ) → among_stored st d ≡ u → length (add_at block st d).stored ≡ length st + 1
      go (some j) e = absurd (n (among-some st d j e))
      go none e = ap (λ (s : Step). length s.stored) (add-new block st d e) ∙ length-append st (d ∷ [])

  -- some are stored after it
  add-some : length (add_at block st d).stored ≢ 0
  add-some = go (among_stored st d) refl
    where
      go : (u : Option ℕ) → among_stored st d ≡ u → length (add_at block st d).stored ≢ 0
      go (some j) e z = absurd (omega (arith, ap (λ (s : Step). length s.stored) (add-again block st d e), (among_stored-found st d j e).0))
      go none e z = absurd (omega (arith, ap (λ (s : Step). length s.stored) (add-new block st d e), length-append st (d ∷ [])))

module _ (f : ℕ → List ℕ) where
  -- those handed in are the f m that are there
  pub handed-has : (k m : ℕ) → m < k → length (f m) ≢ 0 → Among (handed f k) (f m)
  handed-has zero m l h = absurd (omega arith)
  handed-has (suc k) m l h =
      ⊎_elim
      (λ e.
      let i : m ≡ k = omega arith in
      let s : length (f k) ≢ 0 = rw (← i) h in
      rw (handed-some f k s) ((among-more (handed f k) (f k) (f m)).1 (inr (ap f (sym i)))))
      (λ b.
      let a : Among (handed f k) (f m) = handed-has k m (omega arith) h in
      ⊎_elim (λ s. rw (handed-some f k s) ((among-more (handed f k) (f k) (f m)).1 (inl a))) (λ s. rw (handed-none f k s) a) (some_or_none (f k)))
      (eq-or-lt_of_le l)

  handed-lacks : (k : ℕ) (d : List ℕ) → ((m : ℕ) → m < k → f m ≢ d) → ¬ Among (handed f k) d
  unfolding handed
  handed-lacks zero d h = elim [ ]
  handed-lacks (suc k) d h = λ a.
      let rest : ¬ Among (handed f k) d = handed-lacks k d (λ m l. h m (omega arith)) in
      ⊎_elim
      (λ s. ⊎_elim rest (h k (omega arith)) ((among-more (handed f k) (f k) d).0 (rw (handed-some f k s) at a)))
      (λ s. rest (rw (handed-none f k s) at a)) (some_or_none (f k))

module _ (block : ℕ) (f : ℕ → List ℕ) where
  abbrev items : ℕ → List (List ℕ)
  items k = (stored_of block f k).items

  -- and the stored ones are the same, each once
  items-among : (k : ℕ) (d : List ℕ) → Among (items k) d ↔ Among (handed f k) d
  unfolding handed store_all
  items-among zero d = ((λ h. h), λ h. h)
  items-among (suc k) d =
      let ih = items-among k d in
      ⊎_elim
      (λ s.
      let p = among-more (handed f k) (f k) d in
      let q = step-among [] no_disc block (items k) (f k) d (nowhere d) in
      rw (items-some block f k s, handed-some f k s) ((λ h. p.1 (⊎_map ih.0 (λ y. y) (q.0 h))), λ h. q.1 (⊎_map ih.1 (λ y. y) (p.0 h))))
      (λ s. rw (items-none block f k s, handed-none f k s) ih) (some_or_none (f k))

  -- ---- where `stored` of the first k are counted: sector k
  pub counting-starts : 0 ≡ length (items 0)
  unfolding handed store_all
  counting-starts = refl

  module _ (k : ℕ) {stored : ℕ} (c : stored ≡ length (items k)) where
    -- there is none
    pub counting-none : length (f k) ≡ 0 → stored ≡ length (items (k + 1))
    counting-none h = rw (add-one k, items-none block f k h) c

    -- it equals an earlier one
    pub counting-old : (m : ℕ) → m < k → f m ≡ f k → stored ≡ length (items (k + 1))
    counting-old m l e =
        ⊎_elim
        (λ h.
        let a : Among (items k) (f k) = (items-among k (f k)).1 (rw e at (handed-has f k m l (rw e h))) in
        rw (add-one k, items-some block f k h, add-old block (items k) (f k) a) c)
        counting-none (some_or_none (f k))

    -- it equals none
    pub counting-new : length (f k) ≢ 0 → ((m : ℕ) → m < k → f m ≢ f k) → stored + 1 ≡ length (items (k + 1))
    counting-new h n =
        rw (add-one k, items-some block f k h, add-fresh block (items k) (f k) (λ a. handed-lacks f k (f k) n ((items-among k (f k)).0 a))) (ap (λ i. i + 1) c)

  -- where there is a sector, some are stored
  pub some_stored : (count n : ℕ) → n < count → length (f n) ≢ 0 → length (items count) ≢ 0
  some_stored count n l h e =
      let s = add-some block (items n) (f n) in
      absurd (omega (arith, items-most block f (suc n) count l, ap length (items-some block f n h)))
