-- Bytes as lists of numbers: a part of a list, a list with a part of it written over, little-endian numbers (01, Layouts:
-- "All little-endian and packed"), and the comparison of two lists.
-- Assumes nothing.
use Rattle.std.specs.Prelude.{Bool, true, false, ◌&&◌, List, [], ◌∷◌, ℕ, zero, suc, ◌+◌, ◌*◌, ◌/◌, ◌%◌, eqb, take, drop}
use Rattle.std.proofs.lemmas.List.Edits.{sets}

-- the n bytes of s from place `at`; fewer where s ends before
unfoldable pub part : List ℕ → ℕ → ℕ → List ℕ
part s at n = take n (drop at s)

-- the number that bytes spell, the lowest first
unfoldable pub from_le : List ℕ → ℕ
from_le [] = 0
from_le (b ∷ bs) = b + 256 * from_le bs

-- v in k bytes, the lowest first; what does not fit is cut off
unfoldable pub to_le : ℕ → ℕ → List ℕ
to_le zero v = []
to_le (suc k) v = v % 256 ∷ to_le k (v / 256)

-- the number in the k bytes of s from place `at`; a byte past the end counts 0
unfoldable pub field : List ℕ → ℕ → ℕ → ℕ
field s at k = from_le (part s at k)

-- s with `new` stored over it, byte by byte, from place `at`; what would lie past the end is dropped
unfoldable pub overwrite : List ℕ → ℕ → List ℕ → List ℕ
overwrite s at new = sets s at new

-- the same bytes in the same order, length included (01, Commit: "the same bytes, length included")
unfoldable pub equal : List ℕ → List ℕ → Bool
equal [] [] = true
equal [] (y ∷ ys) = false
equal (x ∷ xs) [] = false
equal (x ∷ xs) (y ∷ ys) = eqb x y && equal xs ys
