-- The register over what is left of a list. Assumes nothing.
use mathlib.Core.Path.{◌≡◌, refl, sym, ap, ◌∙◌}
use mathlib.Core.List.{List, [], ◌∷◌, ◌++◌}
use Prim.Native.Nat.{ℕ, ◌+◌, ◌≤◌, ◌<◌}
use native.Mathlib.Numerals.{add-one}
use lib.ListN.{length, take, drop, get_or, take-append-drop, drop_of_length-le}
use lib.Seq.{drop-cons}
use Rattle.crc64.specs.Crc.{add_byte, run}

-- the next byte goes in
pub run-next : (c : ℕ) (s : List ℕ) (i : ℕ) → i < length s → run c (drop i s) ≡ run (add_byte c (get_or s i 0)) (drop (i + 1) s)
unfolding run
run-next c s i h = rw (add-one, drop-cons s i 0)

-- nothing is left
pub run-done : (c : ℕ) (s : List ℕ) (i : ℕ) → length s ≤ i → run c (drop i s) ≡ c
unfolding run
run-done c s i h = rw (drop_of_length-le s h)

-- one list after another
run-append : (c : ℕ) (s t : List ℕ) → run c (s ++ t) ≡ run (run c s) t
unfolding run
run-append c [] t = refl
run-append c (b ∷ s) t = run-append (add_byte c b) s t

-- a list in two parts
pub run-split : (c : ℕ) (s : List ℕ) (m : ℕ) → run c s ≡ run (run c (take m s)) (drop m s)
run-split c s m = ap (run c) (sym (take-append-drop m s)) ∙ run-append c (take m s) (drop m s)
