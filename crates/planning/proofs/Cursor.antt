-- The walk along the addresses of the disc, with k of the handed-in addresses used up and `st` the sectors stored so far: what is
-- left to do at an address. Both passes of a commit walk this way.
use mathlib.Core.Bool.{true, false}
use mathlib.Core.List.{List, [], ◌∷◌}
use mathlib.Core.Logic.{◌≢◌, ⊎_elim}
use mathlib.Core.Option.{Option, some, or_else}
use mathlib.Core.Path.{◌≡◌, refl, sym, ap, ◌∙◌, subst}
use Prim.Native.Nat.{ℕ, zero, suc, ◌+◌, ◌-◌, ◌≤◌, ◌<◌}
use native.Mathlib.Nat.{sub-zero, eq-or-lt_of_le, le_of_suc-le-suc, lt_of_not-le}
use native.Mathlib.Numerals.{add-one}
use native.Mathlib.Omega.{arith}
use lib.ListN.{length, drop, get_or, drop_of_length-le}
use lib.Seq.{drop-cons}
use Rattle.fields.proofs.Steps.{sub-step, sub-done}
use Rattle.format.specs.declared.Pointer.{Pointer}
use Rattle.format.specs.Lists.{All, done, more}
use Rattle.format.specs.Tests.{below}
use Rattle.format.specs.Opening.{Opened}
use Rattle.format.specs.Committing.{rising_by, pieces, given, store_one, store_all, old_pointer, new_pointer, new_pointers}
use Rattle.format.proofs.Tests.{below_on, same-on, same_true, same-iff, and-on, never, choose-true, choose-false}
use Rattle.format.proofs.Lists.{all-get}
use Rattle.format.proofs.Addresses.{given-other}
use Rattle.format.proofs.Storing.{get_or-pieces, length-pieces}
use Rattle.planning.specs.Plans.{heads, is_next, sector_of, stored_by}

-- ---- addresses that rise, from a on
unfoldable pub Above : ℕ → List ℕ → Type 0
Above a [] = Unit
Above a (b ∷ l) = (a ≤ b) × Above (suc b) l

above-cons : (n a : ℕ) (l : List ℕ) → rising_by below (a ∷ l) ≡ true → n ≤ a → Above n (a ∷ l)
unfolding rising_by Above
above-cons n a [] h q = (q, tt)
above-cons n a (b ∷ l) h q = let r = and-on _ _ h in (q, above-cons (suc a) b l r.1 (below_on a b r.0))

above-all : (l : List ℕ) → rising_by below l ≡ true → Above 0 l
unfolding Above
above-all [] h = tt
above-all (a ∷ l) h = above-cons 0 a l h (omega arith)

above-weaker : {m n : ℕ} (l : List ℕ) → Above m l → n ≤ m → Above n l
unfolding Above
above-weaker [] h q = h
above-weaker (b ∷ l) h q = (omega (arith, h.0), h.1)

-- a is none of them
above_other : (a : ℕ) (l : List ℕ) → Above (suc a) l → All (λ (b : ℕ). b ≢ a) l
unfolding Above
above_other a [] h = done
above_other a (b ∷ l) h = more (λ (e : b ≡ a). absurd (omega (arith, h.0))) (above_other a l (above-weaker l h.1 (omega (arith, h.0))))

-- a is not the first
above-next : (a : ℕ) (l : List ℕ) → Above a l → heads l a ≡ false → Above (suc a) l
unfolding Above heads
above-next a [] h e = tt
above-next a (b ∷ l) h e = (⊎_elim (λ q. absurd (same-iff.0 e (sym q))) (λ q. q) (eq-or-lt_of_le h.0), h.1)

pub next-listed : (addresses : List ℕ) (k a : ℕ) → is_next addresses k a ≡ true → k < length addresses
unfolding is_next heads
next-listed addresses k a e = lt_of_not-le (λ g. never e (ap (λ (l : List ℕ). heads l a) (drop_of_length-le addresses {i = k} g)))

-- ---- the new pointers of the n addresses from a on
module _ (img : List ℕ) (t : Opened) where
  pointers-old : (l : List ℕ) (ps : List Pointer) (n a : ℕ) → Above (suc a) l
      → new_pointers img t l ps (suc n) a ≡ old_pointer img t a ∷ new_pointers img t l ps n (suc a)
  unfolding new_pointers new_pointer or_else
  pointers-old l ps n a h = rw (given-other a l ps (above_other a l h))

  -- an address that is passed
  past : (b : ℕ) (l : List ℕ) (p : Pointer) (ps : List Pointer) (n x : ℕ) → b < x → new_pointers img t (b ∷ l) (p ∷ ps) n x ≡ new_pointers img t l ps n x
  unfolding new_pointers new_pointer given
  past b l p ps zero x h = refl
  past b l p ps (suc n) x h =
      rw (choose-false _ (some p) (given l ps x) (same-iff.1 (λ (e : b ≡ x). absurd (omega arith))), past b l p ps n (suc x) (omega arith))

  pub pointers-new : (b : ℕ) (l : List ℕ) (p : Pointer) (ps : List Pointer) (n a : ℕ) → b ≡ a
      → new_pointers img t (b ∷ l) (p ∷ ps) (suc n) a ≡ some p ∷ new_pointers img t l ps n (suc a)
  unfolding new_pointers new_pointer given or_else
  pointers-new b l p ps n a e =
      rw (choose-true _ (some p) (given l ps a) (same_true b a e)) (ap (λ (r : List (Option Pointer)). some p ∷ r) (past b l p ps n (suc a) (omega arith)))

-- ---- the walk
module _ (img : List ℕ) (t : Opened) (addresses : List ℕ) (size : ℕ) (sectors : List ℕ) where
  abbrev all : List (List ℕ)
  all = pieces (length addresses) size sectors

  -- the new pointers from address a on
  abbrev pub left : ℕ → ℕ → List (List ℕ) → List (Option Pointer)
  left a k st = new_pointers img t (drop k addresses) (store_all img t (length img) st (drop k all)).pointers (t.count - a) a

  pub record Walks (a k : ℕ) (st : List (List ℕ)) : Type 0 where
    pub above : Above a (drop k addresses)
    pub items : (store_all img t (length img) st (drop k all)).items ≡ (stored_by img t addresses size sectors).items

  pub walk-starts : rising_by below addresses ≡ true → Walks 0 0 []
  walk-starts h = record { above = above-all addresses h; items = refl }

  pub left-starts : left 0 0 [] ≡ new_pointers img t addresses (stored_by img t addresses size sectors).pointers t.count 0
  left-starts = rw sub-zero

  pub left-done : (a k : ℕ) (st : List (List ℕ)) → t.count ≤ a → left a k st ≡ []
  unfolding new_pointers
  left-done a k st h = rw (sub-done a t.count h)

  -- all that is handed in is used up
  used-up : (a k : ℕ) → All (λ (n : ℕ). n < t.count) addresses → Above a (drop k addresses) → t.count ≤ a → length addresses ≤ k
  unfolding Above
  used-up a k o h c =
      le_of_suc-le-suc
      (lt_of_not-le
      (λ (l : k < length addresses).
      let b : a ≤ get_or addresses k 0 = (subst (Above a) (drop-cons addresses k 0 l) h).0 in
      let i : get_or addresses k 0 < t.count = all-get 0 o k l in
      absurd (omega arith)))

  pub walk-done : {a k : ℕ} {st : List (List ℕ)} → Walks a k st → All (λ (n : ℕ). n < t.count) addresses → t.count ≤ a
      → st ≡ (stored_by img t addresses size sectors).items
  unfolding store_all
  walk-done {a} {k} w o h =
      rw (drop_of_length-le all {i = k} (rw length-pieces (used-up a k o w.above h))) at w.items

  module _ {a k : ℕ} {st : List (List ℕ)} (w : Walks a k st) (h : a < t.count) where
    -- ---- an address for which nothing is handed in
    module _ (e : is_next addresses k a ≡ false) where
      above-old : Above (suc a) (drop k addresses)
      unfolding is_next
      above-old = above-next a (drop k addresses) w.above e

      pub walk-old : Walks (a + 1) k st
      walk-old = record { above = rw add-one above-old; items = w.items }

      pub left-old : left a k st ≡ old_pointer img t a ∷ left (a + 1) k st
      left-old = rw (sub-step a t.count h, add-one) (pointers-old img t _ _ _ a above-old)

    -- ---- one for which sector k is
    module _ (e : is_next addresses k a ≡ true) where
      listed : k < length addresses
      listed = next-listed addresses k a e

      addresses-next : drop k addresses ≡ get_or addresses k 0 ∷ drop (suc k) addresses
      addresses-next = drop-cons addresses k 0 listed

      next-is : get_or addresses k 0 ≡ a
      unfolding is_next heads
      next-is = same-on _ _ (rw addresses-next at e)

      sectors-next : drop k all ≡ sector_of size sectors k ∷ drop (suc k) all
      sectors-next =
          drop-cons all k [] (rw length-pieces listed)
          ∙ ap (λ (d : List ℕ). d ∷ drop (suc k) all) (get_or-pieces (length addresses) size sectors k listed)

      pub walk-new : Walks (a + 1) (k + 1) (store_one img t (length img) st (sector_of size sectors k)).stored
      unfolding store_all Above
      walk-new =
          record {
            above = rw (add-one a, add-one k, ← next-is) (subst (Above a) addresses-next w.above).1;
            items = rw add-one (rw sectors-next at w.items);
          }

      pub left-new : left a k st
          ≡ some (store_one img t (length img) st (sector_of size sectors k)).pointer ∷ left (a + 1) (k + 1) (store_one img t (length img) st (sector_of size sectors k)).stored
      unfolding store_all
      left-new =
          rw (sub-step a t.count h, add-one a, add-one k, addresses-next, sectors-next) (pointers-new img t (get_or addresses k 0) _ _ _ _ a next-is)
