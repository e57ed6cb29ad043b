-- Sectors of one size that stand one after another: where each starts, and when it holds given bytes.
use mathlib.Core.Bool.{Bool}
use mathlib.Core.List.{List, []}
use mathlib.Core.Option.{Option}
use mathlib.Core.Path.{sym, ap, ◌∙◌}
use Prim.Native.Nat.{ℕ, ◌+◌, ◌*◌, ◌≤◌, ◌<◌}
use native.Mathlib.Nat.{suc-mul, mul-le-mul_right}
use native.Mathlib.Omega.{arith}
use lib.ListN.{length, drop, get_or}
use lib.Seq.{drop-drop}
use Rattle.fields.specs.Bytes.{part, equal}
use Rattle.fields.proofs.Compare.{compare-start}
use Rattle.format.specs.Committing.{among_stored, pieces}
use Rattle.format.proofs.Storing.{get_or-pieces, length-pieces}
use Rattle.search.proofs.First.{Searching, Comparing, search-starts}

-- number i lies before the end of all
pub room : (size : ℕ) {i n : ℕ} → i < n → i * size + size ≤ n * size
room size {i} h = rw (← suc-mul i size) (mul-le-mul_right size h)

module _ (s : List ℕ) (at n : ℕ) (sector : List ℕ) where
  abbrev pub holds : ℕ → Bool
  holds j = equal (get_or (pieces n (length sector) (drop at s)) j []) sector

  abbrev pub goal : Option ℕ
  goal = among_stored (pieces n (length sector) (drop at s)) sector

  pub among-starts : Searching holds n goal 0
  unfolding among_stored
  among-starts = search-starts holds n goal (rw length-pieces)

  -- the bytes of number i are compared
  pub among-compares : {i : ℕ} → Searching holds n goal i → i < n → at + n * length sector ≤ length s
      → Comparing holds n goal s sector i (at + i * length sector) 0
  unfolding part
  among-compares {i} k h fits =
      record {
        searching = k;
        below = h;
        inside = omega (arith, room (length sector) h);
        most = omega arith;
        test =
            compare-start s (at + i * length sector) sector
            ∙ ap (λ (l : List ℕ). equal l sector) (sym (get_or-pieces n (length sector) (drop at s) i h ∙ rw drop-drop));
      }
