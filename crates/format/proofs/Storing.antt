-- Where the sectors of a commit end up: each handed-in sector gets a pointer to an equal one, on the old disc or among the stored ones.
use mathlib.Core.Bool.{Bool, true, false}
use mathlib.Core.List.{List, [], ◌∷◌, ◌++◌, map, flatten, append_assoc, append-nil, Forall₂}
use mathlib.Core.Logic.{◌≢◌, ⊎_elim}
use mathlib.Core.Option.{Option, none, some, or_else}
use mathlib.Core.Path.{◌≡◌, refl, sym, ap, ◌∙◌, subst}
use Prim.Native.Nat.{ℕ, zero, suc, ◌+◌, ◌*◌, ◌^◌, ◌≤◌, ◌<◌}
use native.Mathlib.Nat.{eq-or-lt_of_le, add-zero, zero-mul, suc-mul, lt_of_not-le, le_trans, not-suc-le-zero, le_of_suc-le-suc, le-max_left, le-max_right}
use native.Mathlib.Omega.{arith}
use lib.ListN.{length, take, drop, get_or, length-append, length-take, length-drop, length-map, get_or-append}
use lib.Pow.{pow_mono}
use lib.Seq.{take-add, take_at, drop_at, drop-drop, get_or-append_seam}
use borrow.Author.Tests.{not-true}
use Rattle.std.specs.Prelude.{Ok}
use Rattle.fields.specs.Bytes.{part, equal}
use Rattle.fields.proofs.Equal.{equal-true, equal-refl}
use Rattle.fields.proofs.Numbers.{length-to_le}
use Rattle.format.specs.declared.Pointer.{Pointer}
use Rattle.format.specs.Tests.{same, below}
use Rattle.format.specs.Lists.{All, done, more, Any, here, there}
use Rattle.format.specs.Refusals.{Answer}
use Rattle.format.specs.Layouts.{table_entry_length, encode}
use Rattle.format.specs.Opening.{Opened}
use Rattle.format.specs.Reading.{not_written, pointer_at, item_bytes}
use Rattle.format.specs.Committing.{pieces, given, first_with, holds_sector, on_disc, among_stored, Step, item_of, step_for, store_one, Stored, store_all, old_pointer, new_pointer, new_pointers, item_or_zero, largest_item, shift_from, table_entry_bytes}
use Rattle.format.proofs.Tests.{never, below_on, below-iff, and-on, choose-true, choose-false, choose-cases}
use Rattle.format.proofs.Lists.{Sized, all_append, all_take, all_drop, all_head, all_tail, all-image, length-flatten}

-- ---- the smallest shift
pub shift_fits : (k s n : ℕ) → n < 2 ^ (s + k) → n < 2 ^ shift_from k s n
unfolding shift_from
shift_fits zero s n h = rw add-zero at h
shift_fits (suc k) s n h =
    let ih = shift_fits k (suc s) n (subst (λ m. n < 2 ^ m) (omega arith) h) in
    choose-cases (λ m. n < 2 ^ m) (below n (2 ^ s)) s (shift_from k (suc s) n) (below_on _ _) (λ e. ih)

pub shift-least : (k s n m : ℕ) → s ≤ m → n < 2 ^ m → shift_from k s n ≤ m
unfolding shift_from
shift-least zero s n m h q = h
shift-least (suc k) s n m h q =
    let ih = shift-least k (suc s) n m in
    choose-cases (λ r. r ≤ m) (below n (2 ^ s)) s (shift_from k (suc s) n) (λ e. h)
    (λ e.
    let b : 2 ^ s ≤ n = below-iff.0 e in
    ih (lt_of_not-le (λ (z : m ≤ s). let z' : 2 ^ m ≤ 2 ^ s = pow_mono z in omega arith)) q)

-- ---- the searches
-- what a search finds passes its test
first_with-found : (f : ℕ → Bool) (k i a : ℕ) → first_with f k i ≡ some a → (f a ≡ true) × (i ≤ a) × (a < i + k)
unfolding first_with
first_with-found f zero i a e = let z : ◌≡◌ {A = ℕ} 0 1 = cc in absurd (omega arith)
first_with-found f (suc k) i a e =
    let ih = first_with-found f k (suc i) a in
    choose-cases (λ (r : Option ℕ). r ≡ some a → (f a ≡ true) × (i ≤ a) × (a < i + suc k)) (f i) _ _
    (λ t q. let ia : i ≡ a = cc in (rw ia at t, omega arith, omega arith)) (λ t q. let r = ih q in (r.0, omega (arith, r.1), omega (arith, r.2))) e

-- and where it finds nothing, nothing does
pub first_with-none : (f : ℕ → Bool) (k i j : ℕ) → first_with f k i ≡ none → i ≤ j → j < i + k → f j ≡ false
unfolding first_with
first_with-none f zero i j e h l = absurd (omega arith)
first_with-none f (suc k) i j e h l =
    let ih = first_with-none f k (suc i) j in
    choose-cases (λ (r : Option ℕ). r ≡ none → f j ≡ false) (f i) _ _ (λ y q. let z : ◌≡◌ {A = ℕ} 0 1 = cc in absurd (omega arith))
    (λ n q. ⊎_elim (λ s. subst (λ m. f m ≡ false) s n) (λ s. ih q s (omega arith)) (eq-or-lt_of_le h)) e

pub record OnDisc (img : List ℕ) (t : Opened) (sector : List ℕ) (a : ℕ) : Type 0 where
  pub inside : a < t.count
  pub written : not_written img t a ≡ false
  pub bytes : item_bytes img (pointer_at img t a) ≡ sector

pub on_disc-found : (img : List ℕ) (t : Opened) (sector : List ℕ) (a : ℕ) → on_disc img t sector ≡ some a → OnDisc img t sector a
unfolding on_disc holds_sector
on_disc-found img t sector a e =
    let r = first_with-found (holds_sector img t sector) t.count 0 a e in
    let q = and-on _ _ r.0 in
    record { inside = omega (arith, r.2); written = not-true _ q.0; bytes = equal-true _ _ q.1 }

pub among_stored-found : (stored : List (List ℕ)) (sector : List ℕ) (j : ℕ) → among_stored stored sector ≡ some j → (j < length stored) × (get_or stored j [] ≡ sector)
unfolding among_stored
among_stored-found stored sector j e =
    let r = first_with-found (λ j. equal (get_or stored j []) sector) (length stored) 0 j e in
    (omega (arith, r.2), equal-true _ _ r.0)

-- d is one of these
abbrev pub Among : List (List ℕ) → List ℕ → Type 0
Among l d = Any (λ (s : List ℕ). s ≡ d) l

among-at : (l : List (List ℕ)) (d : List ℕ) (j : ℕ) → j < length l → get_or l j [] ≡ d → Among l d
among-at [] d j h e = absurd (not-suc-le-zero h)
among-at (s ∷ l) d zero h e = here e
among-at (s ∷ l) d (suc j) h e = there (among-at l d j (le_of_suc-le-suc h) e)

not-among : (d : List ℕ) (l : List (List ℕ)) → ((j : ℕ) → j < length l → get_or l j [] ≢ d) → ¬ Among l d
not-among d _ h (here e) = h 0 (omega arith) e
not-among d _ h (there {l = l} k) = not-among d l (λ j b. h (suc j) (omega arith)) k

-- what the search among them says of it
pub among-some : (l : List (List ℕ)) (d : List ℕ) (j : ℕ) → among_stored l d ≡ some j → Among l d
among-some l d j e = let r = among_stored-found l d j e in among-at l d j r.0 r.1

pub among_none : (l : List (List ℕ)) (d : List ℕ) → among_stored l d ≡ none → ¬ Among l d
unfolding among_stored
among_none l d e =
    not-among d l (λ j h q.
    never (ap (λ (x : List ℕ). equal x d) q ∙ equal-refl d) (first_with-none (λ i. equal (get_or l i []) d) (length l) 0 j e (omega arith) (omega arith)))

-- ---- the handed-in sectors
pub pieces-sized : (k size : ℕ) (l : List ℕ) → k * size ≤ length l → All (Sized size) (pieces k size l)
unfolding pieces
pieces-sized zero size l h = done
pieces-sized (suc k) size l h =
    let e : length (take size l) ≡ size = simp length-take (omega (arith, suc-mul k size)) in
    more e (pieces-sized k size (drop size l) (simp length-drop (omega (arith, suc-mul k size))))

pub pieces-all : {P : ℕ → Type 0} (k size : ℕ) (l : List ℕ) → All P l → All (All P) (pieces k size l)
unfolding pieces
pieces-all zero size l h = done
pieces-all (suc k) size l h = more (all_take l h size) (pieces-all k size (drop size l) (all_drop l h size))

-- piece i
pub get_or-pieces : (k size : ℕ) (l : List ℕ) (i : ℕ) → i < k → get_or (pieces k size l) i [] ≡ part l (i * size) size
unfolding pieces part
get_or-pieces zero size l i h = absurd (not-suc-le-zero h)
get_or-pieces (suc k) size l zero h = rw zero-mul
get_or-pieces (suc k) size l (suc i) h =
    let e : size + i * size ≡ suc i * size = omega (arith, suc-mul i size) in
    get_or-pieces k size (drop size l) i (le_of_suc-le-suc h) ∙ ap (take size) (drop-drop (i * size) size l ∙ ap (λ n. drop n l) e)

pub length-pieces : (k size : ℕ) (l : List ℕ) → length (pieces k size l) ≡ k
unfolding pieces
length-pieces zero size l = refl
length-pieces (suc k) size l = ap suc (length-pieces k size (drop size l))

-- one after another they are the list again, and those of lists of one size, one after another, are these lists
pub flatten-pieces : (n size : ℕ) (l : List ℕ) → flatten (pieces n size l) ≡ take (n * size) l
unfolding pieces flatten
flatten-pieces zero size l = rw zero-mul
flatten-pieces (suc n) size l =
    let e : size + n * size ≡ suc n * size = omega (arith, suc-mul n size) in
    ap (λ (r : List ℕ). take size l ++ r) (flatten-pieces n size (drop size l)) ∙ sym (take-add size (n * size) l) ∙ ap (λ (m : ℕ). take m l) e

pub pieces-flatten : (size : ℕ) (ls : List (List ℕ)) (rest : List ℕ) → All (Sized size) ls → pieces (length ls) size (flatten ls ++ rest) ≡ ls
unfolding pieces flatten
pieces-flatten size _ rest done = refl
pieces-flatten size _ rest (more {a = l} {l = ls} h hs) =
    let e : (l ++ flatten ls) ++ rest ≡ l ++ (flatten ls ++ rest) = append_assoc l (flatten ls) rest in
    rw (e, take_at l (flatten ls ++ rest) size h, drop_at l (flatten ls ++ rest) size h, pieces-flatten size ls rest hs)

-- ---- where a handed-in sector's bytes are, once `items` are stored in a block at `block`
pub data Source (img : List ℕ) (t : Opened) (block : ℕ) (items : List (List ℕ)) (sector : List ℕ) : Pointer → Type 0 where
  old : {a : ℕ} → OnDisc img t sector a → Source img t block items sector (pointer_at img t a)
  new : {i : ℕ} → i < length items → get_or items i [] ≡ sector → Source img t block items sector (item_of block i)

source-grow : {img : List ℕ} {t : Opened} {block : ℕ} {items : List (List ℕ)} {sector : List ℕ} {p : Pointer} (extra : List (List ℕ))
    → Source img t block items sector p → Source img t block (items ++ extra) sector p
source-grow extra (old h) = old h
source-grow {items = items} extra (new {i = i} h e) = new {i = i} (simp length-append (omega arith)) (get_or-append items extra [] i h ∙ e)

-- P: a property that all handed-in sectors have, and so all stored ones
module _ (img : List ℕ) (t : Opened) (block : ℕ) (P : List ℕ → Type 0) where
  -- one sector
  pub record StepOk (stored : List (List ℕ)) (sector : List ℕ) (r : Step) : Type 0 where
    pub extra : List (List ℕ)
    pub grown : r.stored ≡ stored ++ extra
    pub keeps : All P stored → P sector → All P r.stored
    pub source : Source img t block r.stored sector r.pointer

  pub step_ok : (stored : List (List ℕ)) (sector : List ℕ) → StepOk stored sector (store_one img t block stored sector)
  unfolding store_one step_for
  step_ok stored sector = go (on_disc img t sector) refl (among_stored stored sector) refl
    where
      go : (u : Option ℕ) → on_disc img t sector ≡ u → (v : Option ℕ) → among_stored stored sector ≡ v → StepOk stored sector (step_for img t block stored sector u v)
      go (some a) e v f =
          record { extra = []; grown = sym (append-nil stored); keeps = λ h k. h; source = old (on_disc-found img t sector a e) }
      go none e (some j) f =
          let r = among_stored-found stored sector j f in
          record { extra = []; grown = sym (append-nil stored); keeps = λ h k. h; source = new r.0 r.1 }
      go none e none f =
          record {
            extra = sector ∷ [];
            grown = refl;
            keeps = λ h k. all_append h (more k done);
            source = new {i = length stored} (simp length-append (omega arith)) (get_or-append_seam stored sector [] []);
          }

  pub record StoredOk (stored sectors : List (List ℕ)) (r : Stored) : Type 0 where
    pub extra : List (List ℕ)
    pub grown : r.items ≡ stored ++ extra
    pub keeps : All P stored → All P sectors → All P r.items
    pub sources : Forall₂ (λ (sector : List ℕ) (p : Pointer). Source img t block r.items sector p) sectors r.pointers

  pub stored_ok : (sectors stored : List (List ℕ)) → StoredOk stored sectors (store_all img t block stored sectors)
  unfolding store_all
  stored_ok [] stored = record { extra = []; grown = sym (append-nil stored); keeps = λ h k. h; sources = Forall₂.nil }
  stored_ok (d ∷ ds) stored = go (store_one img t block stored d) (step_ok stored d) (stored_ok ds)
    where
      go : (s : Step) → StepOk stored d s → ((l : List (List ℕ)) → StoredOk l ds (store_all img t block l ds))
          → StoredOk stored (d ∷ ds) (record { items = (store_all img t block s.stored ds).items; pointers = s.pointer ∷ (store_all img t block s.stored ds).pointers })
      go s k ih =
          let r : StoredOk s.stored ds (store_all img t block s.stored ds) = ih s.stored in
          record {
            extra = k.extra ++ r.extra;
            grown = r.grown ∙ ap (λ (l : List (List ℕ)). l ++ r.extra) k.grown ∙ append_assoc stored k.extra r.extra;
            keeps = λ h q. r.keeps (k.keeps h (all_head q)) (all_tail q);
            sources = Forall₂.cons {a = d} {b = s.pointer} (rw r.grown (source-grow r.extra k.source)) r.sources;
          }

-- at most as many are stored as are handed in
module _ (img : List ℕ) (t : Opened) (block : ℕ) where
  step-few : (stored : List (List ℕ)) (sector : List ℕ) → length (store_one img t block stored sector).stored ≤ suc (length stored)
  unfolding store_one step_for
  step-few stored sector = go (on_disc img t sector) (among_stored stored sector)
    where
      go : (u v : Option ℕ) → length (step_for img t block stored sector u v).stored ≤ suc (length stored)
      go (some a) v = omega arith
      go none (some j) = omega arith
      go none none = simp length-append (omega arith)

  pub stored-few : (sectors stored : List (List ℕ)) → length (store_all img t block stored sectors).items ≤ length stored + length sectors
  unfolding store_all
  stored-few [] stored = omega arith
  stored-few (d ∷ ds) stored = omega (arith, stored-few ds (store_one img t block stored d).stored, step-few stored d)

-- the stored sectors have the size of those handed in
pub stored-sized : (img : List ℕ) (t : Opened) (block k size : ℕ) (sectors : List ℕ) → length sectors ≡ k * size
    → All (Sized size) (store_all img t block [] (pieces k size sectors)).items
stored-sized img t block k size sectors h = (stored_ok img t block (Sized size) (pieces k size sectors) []).keeps done (pieces-sized k size sectors (omega arith))

-- ---- what an address reads as after a commit, by what was handed in for it and by what it read as before
unfoldable pub handed_or : Option (List ℕ) → Answer (List ℕ) → Answer (List ℕ)
handed_or (some sector) before = Ok sector
handed_or none before = before

-- ---- the new pointers: of address a, beside what was handed in for it
pub data NewPointer (img : List ℕ) (t : Opened) (block : ℕ) (items : List (List ℕ)) (a : ℕ) : Option Pointer → Option (List ℕ) → Type 0 where
  fresh : {p : Pointer} {sector : List ℕ} → Source img t block items sector p → NewPointer img t block items a (some p) (some sector)
  kept : NewPointer img t block items a (old_pointer img t a) none

module _ (img : List ℕ) (t : Opened) (block : ℕ) (items : List (List ℕ)) (a : ℕ) where
  pub new-pointer : (addresses : List ℕ) (ds : List (List ℕ)) (ps : List Pointer) → Forall₂ (λ (sector : List ℕ) (p : Pointer). Source img t block items sector p) ds ps
      → NewPointer img t block items a (new_pointer img t addresses ps a) (given addresses ds a)
  unfolding new_pointer given or_else
  new-pointer [] ds ps h = kept
  new-pointer (b ∷ bs) _ _ Forall₂.nil = kept
  new-pointer (b ∷ bs) _ _ (Forall₂.cons {a = d} {b = p} {l₁ = ds} {l₂ = ps} h hs) =
      let ih = new-pointer bs ds ps hs in
      choose-cases (λ (u : Option Pointer). NewPointer img t block items a (or_else u (old_pointer img t a)) (given (b ∷ bs) (d ∷ ds) a)) (same b a) _ _
      (λ e. rw (choose-true _ (some d) (given bs ds a) e) (fresh h)) (λ e. rw (choose-false _ (some d) (given bs ds a) e) ih)

module _ (img : List ℕ) (t : Opened) (addresses : List ℕ) (ps : List Pointer) where
  pub length-new_pointers : (k a : ℕ) → length (new_pointers img t addresses ps k a) ≡ k
  unfolding new_pointers
  length-new_pointers zero a = refl
  length-new_pointers (suc k) a = ap suc (length-new_pointers k (suc a))

  pub get_or-new_pointers : (k a j : ℕ) → j < k → get_or (new_pointers img t addresses ps k a) j none ≡ new_pointer img t addresses ps (a + j)
  unfolding new_pointers
  get_or-new_pointers zero a j h = absurd (not-suc-le-zero h)
  get_or-new_pointers (suc k) a zero h = ap (new_pointer img t addresses ps) (sym (add-zero a))
  get_or-new_pointers (suc k) a (suc j) h =
      let e : suc a + j ≡ a + suc j = omega arith in
      get_or-new_pointers k (suc a) j (le_of_suc-le-suc h) ∙ ap (new_pointer img t addresses ps) e

-- ---- the largest item number
pub item-largest : (l : List (Option Pointer)) (j : ℕ) → j < length l → item_or_zero (get_or l j none) ≤ largest_item l
unfolding largest_item
item-largest [] j h = absurd (not-suc-le-zero h)
item-largest (p ∷ l) zero h = le-max_left (item_or_zero p) (largest_item l)
item-largest (p ∷ l) (suc j) h = le_trans (item-largest l j (le_of_suc-le-suc h)) (le-max_right (item_or_zero p) (largest_item l))

pub largest-bound : (b : ℕ) (l : List (Option Pointer)) → 0 < b → ((j : ℕ) → j < length l → item_or_zero (get_or l j none) < b) → largest_item l < b
unfolding largest_item
largest-bound b [] h f = h
largest-bound b (p ∷ l) h f =
    let x : item_or_zero p < b = f 0 (omega arith) in
    let y : largest_item l < b = largest-bound b l h (λ j k. f (suc j) (omega arith)) in
    omega arith

-- ---- the entries of the new table
pub entries-sized : (shift : ℕ) (ps : List (Option Pointer)) → All (Sized table_entry_length) (map (table_entry_bytes shift) ps)
unfolding table_entry_bytes
entries-sized shift ps = all-image (table_entry_bytes shift) sized ps
  where
    sized : (p : Option Pointer) → length (table_entry_bytes shift p) ≡ table_entry_length
    sized none = length-to_le table_entry_length 0
    sized (some p) = length-to_le table_entry_length (encode shift p)

pub length-entries : (shift : ℕ) (ps : List (Option Pointer)) → length (flatten (map (table_entry_bytes shift) ps)) ≡ table_entry_length * length ps
length-entries shift ps = omega (arith, length-flatten table_entry_length _ (entries-sized shift ps), length-map ps (table_entry_bytes shift))
