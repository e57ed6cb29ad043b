-- The sectors of a pair as those of the new table's entries: which are stored, and what a commit of them is handed.
use mathlib.Core.Bool.{true, false, not}
use mathlib.Core.List.{List, [], ◌++◌, map-append}
use mathlib.Core.Logic.Iff
use mathlib.Core.Logic.{◌≢◌, ⊎_elim}
use mathlib.Core.Path.{◌≡◌, refl, sym, ap, ◌∙◌}
use Prim.Native.Nat.{ℕ, zero, suc, ◌+◌, ◌≤◌, ◌<◌}
use native.Mathlib.Nat.{add-zero, zero-add, eq-or-lt_of_le}
use native.Mathlib.Omega.{arith}
use lib.ListN.{length}
use borrow.Author.Tests.{not-true}
use Rattle.std.specs.Prelude.{Ok, Err}
use Rattle.fields.specs.Bytes.{equal}
use Rattle.fields.proofs.Equal.{equal-iff, equal-true}
use Rattle.format.specs.Lists.{All}
use Rattle.format.specs.Refusals.{Answer}
use Rattle.format.specs.Answers.{bytes_read}
use Rattle.format.specs.Flattening.{Written, with_sector, written_from}
use Rattle.format.proofs.Tests.{never, not_iff, or-on, or-iff}
use Rattle.format.proofs.Lists.{not-empty, Sized, all_head, all_tail}
use Rattle.format.proofs.Flattening.{sector_list, number_list}
use Rattle.pairs.specs.Pairs.{held_below}
use Rattle.composing.specs.Composes.{where_any, handed, numbers_of, stored_of}
use Rattle.composing.proofs.Handed.{where-some}
use Rattle.composing.proofs.Counting.{counting-old, counting-new}

-- ---- a sector that a lower address has too, or none
record Held (f : ℕ → List ℕ) (d : List ℕ) (n : ℕ) : Type 0 where
  at : ℕ
  below : at < n
  is : f at ≡ d

held_on : (f : ℕ → List ℕ) (d : List ℕ) (n : ℕ) → held_below f d n ≡ true → Held f d n
unfolding held_below
held_on f d zero e = absurd (never e refl)
held_on f d (suc n) e =
    ⊎_elim (λ h. record { at = n; below = omega arith; is = equal-true (f n) d h })
    (λ h. let r = held_on f d n h in record { at = r.at; below = omega (arith, r.below); is = r.is }) (or-on _ _ e)

held-off : (f : ℕ → List ℕ) (d : List ℕ) (n : ℕ) → held_below f d n ≡ false → (m : ℕ) → m < n → f m ≢ d
unfolding held_below
held-off f d zero e m l h = absurd (omega arith)
held-off f d (suc n) e m l h =
    let k = (or-iff {a = equal (f n) d} {b = held_below f d n} Iff.rfl Iff.rfl).0 e in
    ⊎_elim (λ i. let q : m ≡ n = omega arith in never (equal-iff.1 (ap f (sym q) ∙ h)) k.0) (λ i. held-off f d n k.1 m (omega arith) h) (eq-or-lt_of_le l)

-- ---- where `stored` of the first n are counted: sector n
module _ (block : ℕ) (f : ℕ → List ℕ) (n : ℕ) {stored : ℕ} (c : stored ≡ length (stored_of block f n).items) where
  pub pair-new : 0 < length (f n) → true ≡ not (held_below f (f n) n) → stored + 1 ≡ length (stored_of block f (n + 1)).items
  pair-new s e = counting-new block f n c (λ z. absurd (omega arith)) (held-off f (f n) n (not-true _ (sym e)))

  pub pair-old : false ≡ not (held_below f (f n) n) → stored ≡ length (stored_of block f (n + 1)).items
  pair-old e = let h = held_on f (f n) n (not_iff.0 (sym e)) in counting-old block f n c h.at h.below h.is

-- ---- what a commit is handed: one address more at the end
with_append : (n : ℕ) (x : Answer (List ℕ)) (ws vs : List Written) → with_sector n x (ws ++ vs) ≡ with_sector n x ws ++ vs
unfolding with_sector
with_append n (Ok d) ws vs = refl
with_append n (Err r) ws vs = refl

module _ (disc : ℕ → Answer (List ℕ)) where
  written-more : (k n : ℕ) → written_from disc (suc k) n ≡ written_from disc k n ++ with_sector (n + k) (disc (n + k)) []
  unfolding written_from
  written-more zero n = rw (add-zero n) refl
  written-more (suc k) n =
      let e : suc n + k ≡ n + suc k = omega arith in
      ap (with_sector n (disc n)) (written-more k (suc n) ∙ ap (λ m. written_from disc k (suc n) ++ with_sector m (disc m) []) e) ∙ with_append n (disc n) _ _

  -- where no sector is empty
  module _ (some : (n : ℕ) (d : List ℕ) → disc n ≡ Ok d → d ≢ []) where
    abbrev f : ℕ → List ℕ
    f n = bytes_read (disc n)

    one_number : (n : ℕ) (x : Answer (List ℕ)) → disc n ≡ x → number_list (with_sector n x []) ≡ where_any (bytes_read x) n
    unfolding with_sector bytes_read where_any
    one_number n (Ok d) e = sym (where-some d n (not-empty d (some n d e)))
    one_number n (Err r) e = refl

    one-sector : (n : ℕ) (x : Answer (List ℕ)) → disc n ≡ x → sector_list (with_sector n x []) ≡ where_any (bytes_read x) (bytes_read x)
    unfolding with_sector bytes_read where_any
    one-sector n (Ok d) e = sym (where-some d d (not-empty d (some n d e)))
    one-sector n (Err r) e = refl

    pub numbers-are : (k : ℕ) → number_list (written_from disc k 0) ≡ numbers_of f k
    unfolding numbers_of written_from
    numbers-are zero = refl
    numbers-are (suc k) =
        ap number_list (written-more k 0) ∙ map-append (λ (w : Written). w.address) (written_from disc k 0) _
        ∙ (λ j. numbers-are k j ++ (ap (λ m. number_list (with_sector m (disc m) [])) (zero-add k) ∙ one_number k (disc k) refl) j)

    pub sectors-are : (k : ℕ) → sector_list (written_from disc k 0) ≡ handed f k
    unfolding handed written_from
    sectors-are zero = refl
    sectors-are (suc k) =
        ap sector_list (written-more k 0) ∙ map-append (λ (w : Written). w.sector) (written_from disc k 0) _
        ∙ (λ j. sectors-are k j ++ (ap (λ m. sector_list (with_sector m (disc m) [])) (zero-add k) ∙ one-sector k (disc k) refl) j)

  -- ---- each has the size of all
  sized-with : (size m : ℕ) (x : Answer (List ℕ)) (ws : List Written) (n : ℕ) (d : List ℕ) → All (Sized size) (sector_list (with_sector m x ws)) → x ≡ Ok d → length d ≡ size
  unfolding with_sector
  sized-with size m (Ok c) ws n d h e = let q : c ≡ d = cc in rw (← q) (all_head h)
  sized-with size m (Err r) ws n d h e = let z : ◌≡◌ {A = ℕ} 0 1 = cc in absurd (omega arith)

  rest-with : (size m : ℕ) (x : Answer (List ℕ)) (ws : List Written) → All (Sized size) (sector_list (with_sector m x ws)) → All (Sized size) (sector_list ws)
  unfolding with_sector
  rest-with size m (Ok c) ws h = all_tail h
  rest-with size m (Err r) ws h = h

  pub sized-at : (size k i n : ℕ) (d : List ℕ) → All (Sized size) (sector_list (written_from disc k i)) → i ≤ n → n < i + k → disc n ≡ Ok d → length d ≡ size
  unfolding written_from
  sized-at size zero i n d h l m e = absurd (omega arith)
  sized-at size (suc k) i n d h l m e =
      ⊎_elim (λ q. sized-with size i (disc i) _ n d h (ap disc q ∙ e)) (λ q. sized-at size k (suc i) n d (rest-with size i (disc i) _ h) q (omega arith) e) (eq-or-lt_of_le l)

  -- ---- where there are any, an address has one
  pub record Somewhere (k i : ℕ) : Type 0 where
    pub at : ℕ
    pub from : i ≤ at
    pub inside : at < i + k
    pub sector : List ℕ
    pub has : disc at ≡ Ok sector

  somewhere-with : (k i : ℕ) (x : Answer (List ℕ)) → disc i ≡ x → (written_from disc k (suc i) ≢ [] → Somewhere k (suc i)) → with_sector i x (written_from disc k (suc i)) ≢ [] → Somewhere (suc k) i
  unfolding with_sector
  somewhere-with k i (Ok d) e rest h = record { at = i; from = omega arith; inside = omega arith; sector = d; has = e }
  somewhere-with k i (Err r) e rest h =
      let s = rest h in record { at = s.at; from = omega (arith, s.from); inside = omega (arith, s.inside); sector = s.sector; has = s.has }

  pub somewhere : (k i : ℕ) → written_from disc k i ≢ [] → Somewhere k i
  unfolding written_from
  somewhere zero i h = absurd (h refl)
  somewhere (suc k) i h = somewhere-with k i (disc i) refl (somewhere k (suc i)) h
