-- A search through the numbers below n for the first that passes a test, which compares bytes where numbers may pass: "what is left
-- finds what all finds".
use mathlib.Core.Bool.{Bool, true, false}
use mathlib.Core.List.{List}
use mathlib.Core.Option.{Option, none, some}
use mathlib.Core.Path.{◌≡◌, sym, ◌∙◌}
use Prim.Native.Nat.{ℕ, ◌+◌, ◌-◌, ◌≤◌, ◌<◌}
use native.Mathlib.Nat.{sub-zero}
use native.Mathlib.Numerals.{add-one}
use native.Mathlib.Omega.{arith}
use lib.ListN.{length, get_or}
use Rattle.fields.proofs.Compare.{remaining, compare-turn, compare-stop, compare-done}
use Rattle.fields.proofs.Steps.{sub-step, sub-done}
use Rattle.format.specs.Committing.{first_with}
use Rattle.format.proofs.Tests.{choose-true, choose-false}

module _ (f : ℕ → Bool) (n : ℕ) (goal : Option ℕ) where
  -- the numbers below i do not pass
  pub record Searching (i : ℕ) : Type 0 where
    pub left : first_with f (n - i) i ≡ goal

  -- number i passes exactly if the bytes of s at `start` are those of t, of which j are compared
  pub record Comparing (s t : List ℕ) (i start j : ℕ) : Type 0 where
    pub searching : Searching i
    pub below : i < n
    pub inside : start + length t ≤ length s
    pub most : j ≤ length t
    pub test : remaining s start t j ≡ f i

  pub search-starts : first_with f n 0 ≡ goal → Searching 0
  search-starts e = record { left = rw sub-zero e }

  pub search-goes : {i : ℕ} → Searching i → i < n → f i ≡ false → Searching (i + 1)
  unfolding first_with
  search-goes {i} k h e =
      record { left = rw add-one (sym (choose-false (f i) (some i) _ e) ∙ (rw (sub-step i n h, add-one) at k.left)) }

  found : {i : ℕ} → Searching i → i < n → f i ≡ true → some i ≡ goal
  unfolding first_with
  found {i} k h e = sym (choose-true (f i) (some i) _ e) ∙ (rw (sub-step i n h) at k.left)

  pub search-done : {i : ℕ} → Searching i → n ≤ i → none ≡ goal
  unfolding first_with
  search-done {i} k h = rw (sub-done i n h) at k.left

  module _ {s t : List ℕ} {i start j : ℕ} (k : Comparing s t i start j) where
    pub bytes-agree : j < length t → get_or s (start + j) 0 ≡ get_or t j 0 → Comparing s t i start (j + 1)
    bytes-agree h e =
        record {
          searching = k.searching;
          below = k.below;
          inside = k.inside;
          most = omega arith;
          test = compare-turn s start t j (f i) k.test e (h, k.inside);
        }

    pub bytes-differ : j < length t → (get_or s (start + j) 0 ≡ get_or t j 0 → ⊥) → Searching (i + 1)
    bytes-differ h e = search-goes k.searching k.below (sym (compare-stop s start t j (f i) k.test e (h, k.inside)))

    pub bytes-done : length t ≤ j → some i ≡ goal
    bytes-done h = found k.searching k.below (sym (compare-done s start t j (f i) k.test h))
