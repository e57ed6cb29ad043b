-- The loop that compares a part of one list with the whole of another, byte by byte. What is left at iteration i gives what the
-- whole gives. Assumes nothing.
use mathlib.Core.Path.{◌≡◌, sym, ◌∙◌}
use mathlib.Core.Bool.{Bool, true, false}
use mathlib.Core.List.{List, [], ◌∷◌}
use Prim.Native.Nat.{ℕ, suc, ◌+◌, ◌-◌, ◌≤◌, ◌<◌}
use native.Mathlib.Nat.{add-zero, sub-zero}
use native.Mathlib.Omega.{arith}
use lib.ListN.{length, drop, get_or, drop_of_length-le}
use Rattle.fields.specs.Bytes.{part, equal}
use Rattle.fields.proofs.Overwrite.{part_step, part_none}
use Rattle.fields.proofs.Steps.{sub-step, sub-done, drop-step}
use Rattle.fields.proofs.Equal.{equal-refl, equal-step, equal-stop}

-- the bytes of s from at + i on against those of t from i on
unfoldable pub remaining : List ℕ → ℕ → List ℕ → ℕ → Bool
remaining s at t i = equal (part s (at + i) (length t - i)) (drop i t)

-- at an iteration both sides have a byte
split : (s : List ℕ) (at : ℕ) (t : List ℕ) (i : ℕ) → (i < length t) × (at + length t ≤ length s)
    → remaining s at t i ≡ equal (get_or s (at + i) 0 ∷ part s (at + (i + 1)) (length t - (i + 1))) (get_or t i 0 ∷ drop (i + 1) t)
unfolding remaining
split s at t i h =
    let n : suc (at + i) ≡ at + (i + 1) = omega arith in
    let b : at + i < length s = omega arith in
    rw (sub-step i (length t) h.0, part_step s (at + i) (length t - (i + 1)) b, drop-step t i h.0, n)

pub compare-start : (s : List ℕ) (at : ℕ) (t : List ℕ) → remaining s at t 0 ≡ equal (part s at (length t)) t
unfolding remaining
compare-start s at t = rw (add-zero, sub-zero)

-- the bytes agree: on to the next
pub compare-turn : (s : List ℕ) (at : ℕ) (t : List ℕ) (i : ℕ) (goal : Bool) → remaining s at t i ≡ goal → get_or s (at + i) 0 ≡ get_or t i 0
    → (i < length t) × (at + length t ≤ length s) → remaining s at t (i + 1) ≡ goal
unfolding remaining
compare-turn s at t i goal inv e h = sym (split s at t i h ∙ equal-step _ _ _ _ e) ∙ inv

-- they differ
pub compare-stop : (s : List ℕ) (at : ℕ) (t : List ℕ) (i : ℕ) (goal : Bool) → remaining s at t i ≡ goal → (get_or s (at + i) 0 ≡ get_or t i 0 → ⊥)
    → (i < length t) × (at + length t ≤ length s) → false ≡ goal
compare-stop s at t i goal inv e h = sym (split s at t i h ∙ equal-stop _ _ _ _ e) ∙ inv

-- no byte is left
pub compare-done : (s : List ℕ) (at : ℕ) (t : List ℕ) (i : ℕ) (goal : Bool) → remaining s at t i ≡ goal → length t ≤ i → true ≡ goal
unfolding remaining
compare-done s at t i goal inv h = sym (equal-refl []) ∙ rw (sub-done i (length t) h, part_none, drop_of_length-le t h) at inv
