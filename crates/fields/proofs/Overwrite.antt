-- Laws of `overwrite` and `part`.
-- Assumes nothing.
use mathlib.Core.Path.{◌≡◌, refl, sym, ap, ◌∙◌}
use mathlib.Core.Logic.{◌⊎◌, inl, inr, ⊎_elim}
use mathlib.Core.List.{List, [], ◌∷◌, ◌++◌, append_assoc}
use Prim.Native.Nat.{ℕ, zero, suc, ◌+◌, ◌≤◌, ◌<◌}
use native.Mathlib.Nat.{add_assoc, add-zero}
use native.Mathlib.Numerals.{add-one}
use native.Mathlib.Omega.{arith}
use lib.ListN.{length, take, drop, get_or, set, length-take, length-drop, length-set}
use borrow.Rule.Slice.PartMut.{put_mid}
use lib.Seq.{sets, length-sets, set-append_left, set_out, set_comm, sets-eq, take-set-le, drop-set-lt, get_or-set_other, set-get_or, get_or-take, get_or-drop, ext_get_or, take_at, drop_at, length-take-le, take-length, drop-cons, drop-drop}
use Rattle.fields.specs.Bytes.{part, overwrite}

-- ---- length, past the end, one after the other, nothing, one byte, the three pieces

pub length-overwrite : (s : List ℕ) (at : ℕ) (new : List ℕ) → length (overwrite s at new) ≡ length s
unfolding overwrite
length-overwrite s at new = length-sets s at new

-- past the end nothing is written
pub overwrite-out : (s : List ℕ) (at : ℕ) (new : List ℕ) → length s ≤ at → overwrite s at new ≡ s
unfolding overwrite
overwrite-out s at [] h = refl
overwrite-out s at (x ∷ xs) h = overwrite-out (set s at x) (suc at) xs (simp length-set (omega arith)) ∙ set_out s at x h

-- two runs of bytes, one after the other
pub overwrite-then : (s : List ℕ) (at : ℕ) (x y : List ℕ) → overwrite (overwrite s at x) (at + length x) y ≡ overwrite s at (x ++ y)
unfolding overwrite
overwrite-then s at [] y = rw add-zero
overwrite-then s at (b ∷ x) y = let e : at + suc (length x) ≡ suc at + length x = omega arith in rw e (overwrite-then (set s at b) (suc at) x y)

pub overwrite-nil : (s : List ℕ) (at : ℕ) → overwrite s at [] ≡ s
unfolding overwrite
overwrite-nil s at = refl

-- an iteration of a loop that writes: where b ∷ bs was left to be written at at + i, bs is left after the store of b
pub stored : (s : List ℕ) (at i b : ℕ) (bs goal : List ℕ) → overwrite s (at + i) (b ∷ bs) ≡ goal → overwrite (set s (at + i) b) (at + (i + 1)) bs ≡ goal
unfolding overwrite
stored s at i b bs goal h = rw (← add_assoc, add-one) h

-- its end: nothing is left to be written
pub written : (s : List ℕ) (at : ℕ) (new goal : List ℕ) → new ≡ [] → overwrite s at new ≡ goal → s ≡ goal
written s at new goal e h = sym (overwrite-nil s at) ∙ ap (overwrite s at) (sym e) ∙ h

-- where the bytes fit, the three pieces
pub overwrite-split : (s : List ℕ) (at : ℕ) (new : List ℕ) → at + length new ≤ length s → overwrite s at new ≡ take at s ++ new ++ drop (at + length new) s
unfolding overwrite
overwrite-split s at new h = sets-eq new s at h

-- a part that was lent to be written comes back
pub put_overwrite : (s : List ℕ) (at k : ℕ) (new : List ℕ) → length new ≡ k → at + k ≤ length s → put_mid at k s new ≡ overwrite s at new
put_overwrite s at k new e h =
    rw (← e, drop-drop) (sym (overwrite-split s at new (omega arith) ∙ append_assoc (take at s) new (drop (at + length new) s)))

-- ---- what an overwrite leaves as it was

-- place i is outside the n from `at` on
abbrev pub Off : ℕ → ℕ → ℕ → Type 0
Off i at n = (i < at) ⊎ (at + n ≤ i)

pub get_or-off : (s : List ℕ) (at : ℕ) (new : List ℕ) (i : ℕ) → Off i at (length new) → get_or (overwrite s at new) i 0 ≡ get_or s i 0
unfolding overwrite
get_or-off s at [] i o = refl
get_or-off s at (x ∷ xs) i o =
    get_or-off (set s at x) (suc at) xs i (⊎_elim (λ h. inl (omega arith)) (λ h. inr (omega arith)) o)
    ∙ get_or-set_other s at i x 0 (λ e. ⊎_elim (λ h. omega arith) (λ h. omega arith) o)

pub take-overwrite : (s : List ℕ) (at : ℕ) (new : List ℕ) (n : ℕ) → n ≤ at → take n (overwrite s at new) ≡ take n s
unfolding overwrite
take-overwrite s at [] n h = refl
take-overwrite s at (x ∷ xs) n h = take-overwrite (set s at x) (suc at) xs n (omega arith) ∙ take-set-le n s at x h

drop-overwrite : (s : List ℕ) (at : ℕ) (new : List ℕ) (n : ℕ) → at + length new ≤ n → drop n (overwrite s at new) ≡ drop n s
unfolding overwrite
drop-overwrite s at [] n h = refl
drop-overwrite s at (x ∷ xs) n h = drop-overwrite (set s at x) (suc at) xs n (omega arith) ∙ drop-set-lt n s at x (omega arith)

set-overwrite : (s : List ℕ) (at : ℕ) (new : List ℕ) (i b : ℕ) → i < at → set (overwrite s at new) i b ≡ overwrite (set s i b) at new
unfolding overwrite
set-overwrite s at [] i b h = refl
set-overwrite s at (x ∷ xs) i b h =
    set-overwrite (set s at x) (suc at) xs i b (omega arith) ∙ ap (λ (l : List ℕ). sets l (suc at) xs) (set_comm s at i x b (λ e. omega arith))

-- of two runs that lie apart the lower one may come first
pub overwrite-comm : (s : List ℕ) (at : ℕ) (xs : List ℕ) (p : ℕ) (ys : List ℕ) → p + length ys ≤ at
    → overwrite (overwrite s at xs) p ys ≡ overwrite (overwrite s p ys) at xs
unfolding overwrite
overwrite-comm s at xs p [] h = refl
overwrite-comm s at xs p (y ∷ ys) h =
    ap (λ (l : List ℕ). sets l (suc p) ys) (set-overwrite s at xs p y (omega arith)) ∙ overwrite-comm (set s p y) at xs (suc p) ys (omega arith)

-- two runs of bytes, the second of them first
pub overwrite-before : (s : List ℕ) (at : ℕ) (x : List ℕ) (p : ℕ) (y : List ℕ) → p ≡ at + length x → overwrite (overwrite s p y) at x ≡ overwrite s at (x ++ y)
overwrite-before s at x p y e =
    overwrite-comm s p y at x (omega arith) ∙ ap (λ (n : ℕ). overwrite (overwrite s at x) n y) e ∙ overwrite-then s at x y

-- ---- parts

pub length_part : (s : List ℕ) (at n : ℕ) → at + n ≤ length s → length (part s at n) ≡ n
unfolding part
length_part s at n h = simp (length-take, length-drop) (omega arith)

get_d_part : (s : List ℕ) (at n i : ℕ) → i < n → get_or (part s at n) i 0 ≡ get_or s (at + i) 0
unfolding part
get_d_part s at n i h = get_or-take n (drop at s) i 0 h ∙ get_or-drop at s i 0

-- the first byte of a part, and the others
pub part_step : (s : List ℕ) (at n : ℕ) → at < length s → part s at (suc n) ≡ get_or s at 0 ∷ part s (suc at) n
unfolding part
part_step s at n h = ap (take (suc n)) (drop-cons s at 0 h)

pub part_none : (s : List ℕ) (at : ℕ) → part s at 0 ≡ []
unfolding part
part_none s at = refl

pub part-whole : (s : List ℕ) → part s 0 (length s) ≡ s
unfolding part
part-whole s = take-length s

-- two lists have the same part, at places of their own, where its bytes agree
pub part-alike : (s t : List ℕ) (p q n : ℕ) → p + n ≤ length s → q + n ≤ length t → ((i : ℕ) → i < n → get_or s (p + i) 0 ≡ get_or t (q + i) 0)
    → part s p n ≡ part t q n
part-alike s t p q n hs ht h =
    let ls : length (part s p n) ≡ n = length_part s p n hs in
    let lt : length (part t q n) ≡ n = length_part t q n ht in
    ext_get_or 0 (part s p n) (part t q n) (ls ∙ sym lt)
    (λ i b. let l : i < n = omega arith in
    get_d_part s p n i l ∙ h i l ∙ sym (get_d_part t q n i l))

pub part_same : (s : List ℕ) (at n : ℕ) (new : List ℕ) → length new ≡ n → at + n ≤ length s → part (overwrite s at new) at n ≡ new
unfolding part
part_same s at n new e h =
    ap (λ (l : List ℕ). take n (drop at l)) (overwrite-split s at new (omega arith) ∙ append_assoc (take at s) new (drop (at + length new) s))
    ∙ ap (take n) (drop_at (take at s) (new ++ drop (at + length new) s) at (length-take-le at s (omega arith)))
    ∙ take_at new (drop (at + length new) s) n e

pub get_or-in : (s : List ℕ) (at : ℕ) (new : List ℕ) (i : ℕ) → i < length new → at + length new ≤ length s → get_or (overwrite s at new) (at + i) 0 ≡ get_or new i 0
get_or-in s at new i h room =
    sym (get_d_part (overwrite s at new) at (length new) i h)
    ∙ ap (λ (l : List ℕ). get_or l i 0) (part_same s at (length new) new refl room)

-- ---- an overwrite that changes nothing, and one that leaves nothing of an earlier one

pub overwrite-self : (s : List ℕ) (at n : ℕ) → at + n ≤ length s → overwrite s at (part s at n) ≡ s
unfolding overwrite
overwrite-self s at zero h = ap (sets s at) (part_none s at)
overwrite-self s at (suc n) h =
    ap (sets s at) (part_step s at n (omega arith)) ∙ ap (λ (l : List ℕ). sets l (suc at) (part s (suc at) n)) (set-get_or s at 0)
    ∙ overwrite-self s (suc at) n (omega arith)

pub overwrite-cover : (s : List ℕ) (at : ℕ) (xs : List ℕ) (p : ℕ) (ys : List ℕ) → at ≤ p → p + length ys ≤ at + length xs → at + length xs ≤ length s
    → overwrite (overwrite s p ys) at xs ≡ overwrite s at xs
overwrite-cover s at xs p ys h k room =
    overwrite-split (overwrite s p ys) at xs (rw length-overwrite room)
    ∙ ap (λ (l : List ℕ). l ++ xs ++ drop (at + length xs) (overwrite s p ys)) (take-overwrite s p ys at h)
    ∙ ap (λ (l : List ℕ). take at s ++ xs ++ l) (drop-overwrite s p ys (at + length xs) k) ∙ sym (overwrite-split s at xs room)

-- ---- a run within the run that stands at the front

overwrite-left : (xs rest : List ℕ) (p : ℕ) (ys : List ℕ) → p + length ys ≤ length xs → overwrite (xs ++ rest) p ys ≡ overwrite xs p ys ++ rest
unfolding overwrite
overwrite-left xs rest p [] h = refl
overwrite-left xs rest p (y ∷ ys) h =
    ap (λ (l : List ℕ). sets l (suc p) ys) (set-append_left xs rest p y (omega arith)) ∙ overwrite-left (set xs p y) rest (suc p) ys (rw length-set (omega arith))

pub overwrite-inside : (s xs : List ℕ) (p : ℕ) (ys : List ℕ) → p + length ys ≤ length xs → length xs ≤ length s
    → overwrite (overwrite s 0 xs) p ys ≡ overwrite s 0 (overwrite xs p ys)
overwrite-inside s xs p ys h k =
    let n : length (overwrite xs p ys) ≡ length xs = length-overwrite xs p ys in
    ap (λ (l : List ℕ). overwrite l p ys) (overwrite-split s 0 xs (omega arith)) ∙ overwrite-left xs (drop (0 + length xs) s) p ys h
    ∙ ap (λ m. overwrite xs p ys ++ drop (0 + m) s) (sym n) ∙ sym (overwrite-split s 0 (overwrite xs p ys) (omega arith))
