-- The sectors of a pair address by address: what a loop over its addresses has left, and what it has passed.
use mathlib.Core.Bool.{Bool, true, false, not}
use mathlib.Core.List.{List, [], ◌∷◌}
use mathlib.Core.Logic.{◌≢◌, ⊎_elim}
use mathlib.Core.Path.{◌≡◌, refl, sym, ap, ◌∙◌}
use Prim.Native.Nat.{ℕ, zero, suc, ◌+◌, ◌-◌, ◌≤◌, ◌<◌}
use native.Mathlib.Nat.{sub-zero}
use native.Mathlib.Numerals.{add-one}
use native.Mathlib.Omega.{arith}
use lib.ListN.{length}
use Rattle.std.specs.Prelude.{Ok, Err}
use Rattle.fields.specs.Bytes.{part, equal}
use Rattle.fields.proofs.Equal.{equal-true}
use Rattle.fields.proofs.Overwrite.{part-whole}
use Rattle.fields.proofs.Steps.{sub-step, sub-done}
use Rattle.format.specs.Tests.{same, below, ◌or◌}
use Rattle.format.specs.Refusals.{refusal, Answer}
use Rattle.format.specs.Opening.{Opened, opening}
use Rattle.format.specs.Writing.{most_sectors, largest_size, most_addresses}
use Rattle.format.specs.Flattening.{count_of, pair_at, Written, with_sector, written_from, written_of, size_of, any_other, sizes_verdict}
use Rattle.format.proofs.Tests.{on-or-off, differs_true, differs-iff, or-true-left, or-rest}
use Rattle.format.proofs.Lists.{empty}
use Rattle.format.proofs.Chains.{stop, on, stop-last, on-last}
use Rattle.pairs.specs.Pairs.{sector_at, held_below}
use Rattle.pairs.proofs.Sectors.{count-is, sector-some, sector-is}

module _ (child parent : List ℕ) (count : ℕ) where
  abbrev ws : List Written
  ws = written_of child parent

  -- ---- those from address n on
  abbrev pub rest : ℕ → List Written
  rest n = written_from (pair_at child parent) (count - n) n

  rest-done : (n : ℕ) → count ≤ n → rest n ≡ []
  unfolding written_from
  rest-done n h = rw (sub-done n count h)

  module _ (n : ℕ) (h : n < count) (d : List ℕ) (f : d ≡ sector_at child parent n) where
    rest-step : rest n ≡ with_sector n (pair_at child parent n) (rest (n + 1))
    unfolding written_from
    rest-step = rw (sub-step n count h, add-one)

    rest_some : 0 < length d → rest n ≡ record { address = n; sector = d } ∷ rest (n + 1)
    unfolding with_sector
    rest_some l = rest-step ∙ ap (λ (x : Answer (List ℕ)). with_sector n x (rest (n + 1))) (sector-some child parent n d f l)

    without : (x : Answer (List ℕ)) → pair_at child parent n ≡ x → length d ≤ 0 → with_sector n x (rest (n + 1)) ≡ rest (n + 1)
    unfolding with_sector
    without (Ok c) e l = let q = sector-is child parent n c e in absurd (q.1 (sym q.0 ∙ sym f ∙ empty d l))
    without (Err r) e l = refl

    rest-none : length d ≤ 0 → rest n ≡ rest (n + 1)
    rest-none l = rest-step ∙ without (pair_at child parent n) refl l

    -- ---- the size of the first: those below n have none
    module _ (g : size_of (rest n) ≡ size_of ws) where
      pub size-found : 0 < length d → length d ≡ size_of ws
      unfolding size_of
      size-found l = sym (ap size_of (rest_some l)) ∙ g

      pub size-goes : length d ≤ 0 → size_of (rest (n + 1)) ≡ size_of ws
      size-goes l = sym (ap size_of (rest-none l)) ∙ g

    -- ---- how many: so many of those below n
    module _ (so : ℕ) (g : so + length (rest n) ≡ length ws) where
      pub many-some : 0 < length d → so + 1 + length (rest (n + 1)) ≡ length ws
      many-some l = omega (arith, g, ap length (rest_some l))

      pub many-none : length d ≤ 0 → so + length (rest (n + 1)) ≡ length ws
      many-none l = omega (arith, g, ap length (rest-none l))

    -- ---- another size: those below n have this one
    module _ (size : ℕ) (g : any_other size (rest n) ≡ any_other size ws) where
      pub other-found : 0 < length d → length d ≢ size → true ≡ any_other size ws
      unfolding any_other
      other-found l m = sym (ap (any_other size) (rest_some l) ∙ or-true-left _ _ (differs_true _ _ m)) ∙ g

      pub other_goes : 0 < length d → length d ≡ size → any_other size (rest (n + 1)) ≡ any_other size ws
      unfolding any_other
      other_goes l m = sym (ap (any_other size) (rest_some l) ∙ or-rest _ (differs-iff.1 m)) ∙ g

      pub other_none : length d ≤ 0 → any_other size (rest (n + 1)) ≡ any_other size ws
      other_none l = sym (ap (any_other size) (rest-none l)) ∙ g

  module _ (n : ℕ) (h : count ≤ n) where
    pub size-done : size_of (rest n) ≡ size_of ws → 0 ≡ size_of ws
    unfolding size_of
    size-done g = sym (ap size_of (rest-done n h)) ∙ g

    pub many-done : (so : ℕ) → so + length (rest n) ≡ length ws → so ≡ length ws
    many-done so g = omega (arith, g, ap length (rest-done n h))

    pub other-done : (size : ℕ) → any_other size (rest n) ≡ any_other size ws → false ≡ any_other size ws
    unfolding any_other
    other-done size g = sym (ap (any_other size) (rest-done n h)) ∙ g

-- all of them, where the child opens to t
module _ (child parent : List ℕ) (t : Opened) (e : opening child ≡ Ok t) where
  pub rest_all : rest child parent t.count 0 ≡ written_of child parent
  unfolding written_of
  rest_all = ap (λ k. written_from (pair_at child parent) k 0) (sub-zero t.count ∙ count-is child t e)

  pub many-all : 0 + length (rest child parent t.count 0) ≡ length (written_of child parent)
  many-all = omega (arith, ap length rest_all)

-- ---- 40, then 30, by what the code was handed and what it asked
module _ (child parent : List ℕ) where
  abbrev all : List Written
  all = written_of child parent

  module _ {size : ℕ} (s : size ≡ size_of all) {b : Bool} (o : b ≡ any_other size all) where
    others : b ≡ any_other (size_of all) all
    others = o ∙ ap (λ n. any_other n all) s

    pub sizes-40 : b ≡ true → Err (refusal 40 0) ≡ sizes_verdict (count_of child) all
    unfolding sizes_verdict
    sizes-40 y = stop _ (sym others ∙ y)

    module _ (one : b ≡ false) {written : ℕ} (w : written ≡ length all) (t : Opened) (e : opening child ≡ Ok t) {count : ℕ} (c : count ≡ t.count)
        {r : Bool} (q : r ≡ (same count 0 or below most_sectors count or below largest_size size or below most_addresses written)) where
      counted : count ≡ count_of child
      counted = c ∙ count-is child t e

      overs : r ≡ (same (count_of child) 0 or below most_sectors (count_of child) or below largest_size (size_of all) or below most_addresses (length all))
      overs = rw (s, w, counted) at q

      pub sizes-30 : r ≡ true → Err (refusal 30 0) ≡ sizes_verdict (count_of child) all
      unfolding sizes_verdict
      sizes-30 y = on _ (sym others ∙ one) (stop-last (sym overs ∙ y))

      pub sizes-pass : r ≡ false → Ok tt ≡ sizes_verdict (count_of child) all
      unfolding sizes_verdict
      sizes-pass y = on _ (sym others ∙ one) (on-last _ (sym overs ∙ y))

-- ---- the same bytes
pub size-differs : (x y : List ℕ) → length x ≢ length y → false ≡ equal x y
size-differs x y h = ⊎_elim (λ e. absurd (h (ap length (equal-true x y e)))) (λ e. sym e) (on-or-off (equal x y))

pub bytes_same : (x y : List ℕ) {r : Bool} → length x ≡ length y → r ≡ equal (part x 0 (length y)) y → r ≡ equal x y
bytes_same x y l e = e ∙ ap (λ n. equal (part x 0 n) y) (sym l) ∙ ap (λ (z : List ℕ). equal z y) (part-whole x)

-- what `is_same` answers, for its proof to find
pub ruleset same_bytes = (size-differs, bytes_same)

-- ---- a lower address that has them, from n down: none of those from `left` on has
module _ (disc : ℕ → List ℕ) (d : List ℕ) where
  pub held_none : (left : ℕ) → left ≤ 0 → held_below disc d left ≡ false
  unfolding held_below
  held_none zero h = refl
  held_none (suc left) h = absurd (omega arith)

  module _ (left : ℕ) (h : 0 < left) {x : List ℕ} (f : x ≡ disc (left - 1)) {r : Bool} (s : r ≡ equal x d) where
    held_next : held_below disc d left ≡ (r or held_below disc d (left - 1))
    unfolding held_below
    held_next =
        let e : left ≡ suc (left - 1) = omega arith in
        ap (held_below disc d) e ∙ ap (λ (b : Bool). b or held_below disc d (left - 1)) (ap (λ (z : List ℕ). equal z d) (sym f) ∙ sym s)

    pub held_found : r ≡ true → held_below disc d left ≡ true
    held_found y = held_next ∙ or-true-left _ _ y

    pub held-goes : r ≡ false → held_below disc d (left - 1) ≡ held_below disc d left
    held-goes y = sym (held_next ∙ or-rest _ y)

  -- the answer
  pub new_is : {own : List ℕ} (n left : ℕ) (b : Bool) → own ≡ d → held_below disc own left ≡ held_below disc own n → held_below disc own left ≡ b
      → not b ≡ not (held_below disc d n)
  new_is n left b e g k = ap not (sym k ∙ g ∙ ap (λ (z : List ℕ). held_below disc z n) e)
