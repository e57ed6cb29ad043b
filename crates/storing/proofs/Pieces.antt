-- Sectors of one size that are written one after another, and read back.
use mathlib.Core.List.{List, [], ◌∷◌, ◌++◌, flatten, append_assoc, append-nil}
use mathlib.Core.Logic.{◌≢◌}
use mathlib.Core.Path.{◌≡◌, refl, sym, ap, ◌∙◌}
use Prim.Native.Nat.{ℕ, zero, suc, ◌+◌, ◌*◌, ◌≤◌}
use native.Mathlib.Nat.{mul-suc, le_refl}
use native.Mathlib.Omega.{arith}
use lib.ListN.{length, take, drop, length-drop}
use lib.Seq.{drop_at, length-take-le}
use Rattle.fields.specs.Bytes.{part, overwrite}
use Rattle.fields.proofs.Overwrite.{length-overwrite, overwrite-then, overwrite-split, overwrite-comm, overwrite-self, overwrite-cover}
use Rattle.format.specs.Lists.{All}
use Rattle.format.specs.Committing.{pieces}
use Rattle.format.proofs.Lists.{Sized, length-flatten}
use Rattle.format.proofs.Storing.{flatten-pieces, pieces-flatten}

-- sectors of some size are no more than their bytes
pub most-items : (n size : ℕ) → size ≢ 0 → n ≤ n * size
most-items n zero h = absurd (h refl)
most-items n (suc size) h = omega (arith, mul-suc n size)

-- those that stand there, written over by themselves
pub pieces-stand : (s : List ℕ) (at n size : ℕ) → at + n * size ≤ length s → overwrite s at (flatten (pieces n size (drop at s))) ≡ s
unfolding part
pieces-stand s at n size h = ap (overwrite s at) (flatten-pieces n size (drop at s)) ∙ overwrite-self s at (n * size) h

-- those that were written are read back
pub pieces-written : (s : List ℕ) (at size : ℕ) (ls : List (List ℕ)) → All (Sized size) ls → at + length ls * size ≤ length s
    → pieces (length ls) size (drop at (overwrite s at (flatten ls))) ≡ ls
pieces-written s at size ls hs h =
    let n : length (flatten ls) ≡ length ls * size = length-flatten size ls hs in
    ap (λ (l : List ℕ). pieces (length ls) size (drop at l))
    (overwrite-split s at (flatten ls) (omega arith) ∙ append_assoc (take at s) (flatten ls) (drop (at + length (flatten ls)) s))
    ∙ ap (pieces (length ls) size) (drop_at (take at s) (flatten ls ++ drop (at + length (flatten ls)) s) at (length-take-le at s (omega arith)))
    ∙ pieces-flatten size ls (drop (at + length (flatten ls)) s) hs

-- one list more
pub flatten-next : (ls : List (List ℕ)) (l : List ℕ) → flatten (ls ++ (l ∷ [])) ≡ flatten ls ++ l
unfolding flatten
flatten-next [] l = append-nil l
flatten-next (k ∷ ls) l = ap (λ (r : List ℕ). k ++ r) (flatten-next ls l) ∙ sym (append_assoc k (flatten ls) l)

-- one more behind those that stand there
pub pieces-next : (s : List ℕ) (at n size : ℕ) (l : List ℕ) → at + n * size ≤ length s
    → overwrite s (at + n * size) l ≡ overwrite s at (flatten (pieces n size (drop at s) ++ (l ∷ [])))
pieces-next s at n size l h =
    let ls : List (List ℕ) = pieces n size (drop at s) in
    let m : length (flatten ls) ≡ n * size = ap length (flatten-pieces n size (drop at s)) ∙ length-take-le (n * size) (drop at s) (simp length-drop (omega arith)) in
    ap (λ (r : List ℕ). overwrite r (at + n * size) l) (sym (pieces-stand s at n size h))
    ∙ ap (λ (k : ℕ). overwrite (overwrite s at (flatten ls)) (at + k) l) (sym m)
    ∙ overwrite-then s at (flatten ls) l ∙ ap (overwrite s at) (sym (flatten-next ls l))

-- a run `all` is to be written at `at`, and e and then rest at q behind it: a run `first` at `at` and e at q change nothing of that
pub written_next : (s : List ℕ) (at q : ℕ) (first all e rest goal : List ℕ) → length first ≤ length all → at + length all ≤ q → q ≤ length s
    → overwrite (overwrite s at all) q (e ++ rest) ≡ goal → overwrite (overwrite (overwrite (overwrite s at first) q e) at all) (q + length e) rest ≡ goal
written_next s at q first all e rest goal h k m g =
    ap (λ (r : List ℕ). overwrite (overwrite r at all) (q + length e) rest) (sym (overwrite-comm s q e at first (omega arith)))
    ∙ ap (λ (r : List ℕ). overwrite r (q + length e) rest)
    (overwrite-cover (overwrite s q e) at all at first (le_refl at) (omega arith) (rw length-overwrite (omega arith)) ∙ overwrite-comm s q e at all k)
    ∙ overwrite-then (overwrite s at all) q e rest ∙ g
