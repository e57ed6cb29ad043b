-- One sector: what each answer of the searches leaves.
use mathlib.Core.Bool.{false}
use mathlib.Core.List.{List, [], ◌∷◌, ◌++◌, flatten}
use mathlib.Core.Logic.{◌≢◌}
use mathlib.Core.Option.{none, some}
use mathlib.Core.Option as definition
use mathlib.Core.Path.{◌≡◌, refl, sym, ap, ◌∙◌, subst}
use Prim.Native.Nat.{ℕ, ◌+◌, ◌*◌, ◌^◌, ◌≤◌, ◌<◌}
use native.Mathlib.Nat.{suc-mul, mul-le-mul_right}
use native.Mathlib.Numerals.{add-one}
use native.Mathlib.Omega.{arith}
use lib.ListN.{length, take, drop, length-append}
use lib.Seq.{length-take-le}
use Rattle.std.specs.Prelude.{Option, Some, None, Ok}
use Rattle.fields.specs.Bytes.{part, overwrite}
use Rattle.format.specs.declared.ItemNumber.{ItemNumber}
use Rattle.format.specs.declared.Pointer.{Pointer}
use Rattle.format.specs.declared.EntryNumber.{EntryNumber}
use Rattle.format.specs.Layouts.{block_header_length, encode}
use Rattle.format.specs.Opening.{Opened, opening}
use Rattle.format.specs.Reading.{not_written, pointer_at}
use Rattle.format.specs.Writing.{longest_buffer}
use Rattle.format.specs.Committing.{first_with, on_disc, among_stored, item_of, Step, step_for, store_one, old_pointer}
use Rattle.format.proofs.Lists.{Sized}
use Rattle.format.proofs.Tests.{choose-true, choose-false}
use Rattle.format.proofs.Storing.{OnDisc, on_disc-found, length-pieces, Source, old, new, step_ok}
use Rattle.format.proofs.Appended.{pointer-small}
use Rattle.opening.specs.Answers.{PointsTo}
use Rattle.search.specs.Found.{Checked, entry_found, item_found}
use Rattle.search.proofs.Disc.{sector-good}
use Rattle.storing.specs.declared.Handed.{Handed}
use Rattle.storing.specs.Turns.{no_disc, add_at, entry_of, items_in, add_in, step_in, Steps, Stepped}
use Rattle.storing.proofs.Pieces.{most-items, pieces-stand, pieces-next}

-- ---- the numbers of a pointer are small
abbrev pub Small : Pointer → Type 0
Small p = (p.block.0 < 2 ^ 32) × (p.item.0 < 2 ^ 32)

pub old-small : (img : List ℕ) (t : Opened) (a : ℕ) → Checked img t → length img ≤ longest_buffer → a < t.count → not_written img t a ≡ false
    → Small (pointer_at img t a)
old-small img t a k short h w = pointer-small img _ (sector-good img t a k h w).item short

source-small : (img : List ℕ) (t : Opened) (block : ℕ) (items : List (List ℕ)) (sector : List ℕ) (p : Pointer) → Source img t block items sector p
    → (size : ℕ) → ((a : ℕ) → OnDisc img t sector a → Small (pointer_at img t a)) → size ≢ 0 → block + block_header_length + length items * size ≤ longest_buffer → Small p
source-small img t block items sector _ (old {a = a} o) size k pos short = k a o
source-small img t block items sector _ (new {i = i} h e) size k pos short = (omega arith, omega (arith, most-items (length items) size pos))

pub step_small : (img : List ℕ) (t : Opened) (block : ℕ) (items : List (List ℕ)) (sector : List ℕ) (size : ℕ)
    → ((a : ℕ) → OnDisc img t sector a → Small (pointer_at img t a)) → size ≢ 0
    → block + block_header_length + length (store_one img t block items sector).stored * size ≤ longest_buffer → Small (store_one img t block items sector).pointer
step_small img t block items sector size k pos short =
    source-small img t block _ sector _ (step_ok img t block (Sized size) items sector).source size k pos short

-- ---- an address that keeps what it has
module _ (img : List ℕ) (t : Opened) (a shift : ℕ) where
  pub old-none : PointsTo img t a None → 0 ≡ entry_of shift (old_pointer img t a)
  unfolding old_pointer entry_of PointsTo
  old-none k = rw (choose-true (not_written img t a) none (some (pointer_at img t a)) k)

  pub old-some : (p : Pointer) → PointsTo img t a (Some p) → encode shift p ≡ entry_of shift (old_pointer img t a)
  unfolding old_pointer entry_of PointsTo
  old-some p k = rw (k.1, choose-false (not_written img t a) none (some (pointer_at img t a)) k.0)

-- ---- a sector that the disc does not hold
pub nowhere : (d : List ℕ) → on_disc [] no_disc d ≡ none
unfolding on_disc first_with
nowhere d = refl

module _ (block : ℕ) (items : List (List ℕ)) (sector : List ℕ) where
  pub add-again : {j : ℕ} → among_stored items sector ≡ some j → add_at block items sector ≡ record { stored = items; pointer = item_of block j }
  unfolding store_one step_for
  add-again e = rw (nowhere sector, e) refl

  pub add-new : among_stored items sector ≡ none → add_at block items sector ≡ record { stored = items ++ (sector ∷ []); pointer = item_of block (length items) }
  unfolding store_one step_for
  add-new e = rw (nowhere sector, e) refl

  -- whichever disc that is
  pub add-lost : (img : List ℕ) (t : Opened) → on_disc img t sector ≡ none → store_one img t block items sector ≡ add_at block items sector
  unfolding store_one step_for
  add-lost img t e = rw (e, nowhere sector) (go (among_stored items sector))
    where
      go : (v : definition.Option ℕ) → step_for img t block items sector none v ≡ step_for [] no_disc block items sector none v
      go none = refl
      go (some j) = refl

-- ---- by the buffer in which n sectors stand
module _ (buf : List ℕ) (block : ℕ) (sector : List ℕ) (n : ℕ) where
  abbrev start : ℕ
  start = block + block_header_length

  abbrev items : List (List ℕ)
  items = items_in buf block n (length sector)

  count : length items ≡ n
  count = length-pieces n (length sector) (drop start buf)

  -- where the sector stands already nothing is stored
  stands : {step : Step} → Steps buf block sector step → (p : Pointer) → step ≡ record { stored = items; pointer = p }
      → Stepped buf buf block step (record { pointer = p; stored = n })
  stands h p e =
      let inside : start + n * length sector ≤ length buf = rw (e, count) at h.room in
      record {
        pointer = sym (ap (λ (x : Step). x.pointer) e);
        stored = sym (ap (λ (x : Step). length x.stored) e ∙ count);
        buffer = sym (ap (λ (x : Step). overwrite buf start (flatten x.stored)) e ∙ pieces-stand buf start n (length sector) inside);
      }

  -- ---- the search among them
  module _ (h : Steps buf block sector (add_in buf block sector n)) where
    -- they lie in the buffer
    pub inside : start + n * length sector ≤ length buf
    inside =
        let g = step_ok [] no_disc block (Sized (length sector)) items sector in
        let more : length items ≤ length (add_in buf block sector n).stored = rw g.grown (simp length-append (omega arith)) in
        let le : n ≤ length (add_in buf block sector n).stored = omega (arith, count) in
        omega (arith, mul-le-mul_right (length sector) le, h.room)

    -- their number is small
    pub few : n ≤ length buf
    few = omega (arith, most-items n (length sector) h.pos, inside)

    -- found among them
    pub again : {i : Option ItemNumber} {j : ItemNumber} → item_found i ≡ among_stored items sector → i ≡ Some j
        → Stepped buf buf block (add_in buf block sector n) (record { pointer = item_of block j.0; stored = n })
    unfolding item_found
    again {i} {j} f g = stands h (item_of block j.0) (add-again block items sector (sym f ∙ ap item_found g))

    -- stored as the next
    module _ {i : Option ItemNumber} (f : item_found i ≡ among_stored items sector) (g : i ≡ None) where
      is-new : add_in buf block sector n ≡ record { stored = items ++ (sector ∷ []); pointer = item_of block (length items) }
      unfolding item_found
      is-new = add-new block items sector (sym f ∙ ap item_found g)

      one_more : n + 1 ≡ length (add_in buf block sector n).stored
      one_more = sym (ap (λ (x : Step). length x.stored) is-new ∙ length-append items (sector ∷ []) ∙ omega (arith, count))

      -- there is room for it
      pub room : start + n * length sector + length sector ≤ length buf
      room = omega (arith, rw (← one_more, add-one, suc-mul) at h.room)

      pub fresh : {after : List ℕ} → after ≡ overwrite buf (start + n * length sector) sector
          → Stepped buf after block (add_in buf block sector n) (record { pointer = item_of block n; stored = n + 1 })
      fresh b =
          record {
            pointer = sym (ap (λ (x : Step). x.pointer) is-new ∙ ap (item_of block) count);
            stored = one_more;
            buffer = b ∙ pieces-next buf start n (length sector) sector inside ∙ sym (ap (λ (x : Step). overwrite buf start (flatten x.stored)) is-new);
          }

-- ---- a handed-in sector
module _ (buf : List ℕ) (used : ℕ) (t : Opened) (sector : List ℕ) (n : ℕ) (k : Checked (take used buf) t)
    (h : Steps buf used sector (step_in buf used t sector n)) where
  abbrev img : List ℕ
  img = take used buf

  -- the image is the front of the buffer
  pub readable : {s : List ℕ} → s ≡ part buf 0 used → opening s ≡ Ok t
  unfolding part
  readable e = rw e k.0

  on-disc : {s : List ℕ} (r : Option EntryNumber) → s ≡ part buf 0 used → entry_found r ≡ on_disc s t sector → on_disc img t sector ≡ entry_found r
  unfolding part
  on-disc r p e = ap (λ (x : List ℕ). on_disc x t sector) (sym p) ∙ sym e

  -- found on the disc; there the pointer is read
  module _ {s : List ℕ} {r : Option EntryNumber} {a : EntryNumber} (es : s ≡ part buf 0 used) (e : entry_found r ≡ on_disc s t sector) (q : r ≡ Some a) where
    at_address : on_disc img t sector ≡ some a.0
    unfolding entry_found
    at_address = on-disc r es e ∙ ap entry_found q

    pub inside-disc : a.0 < t.count
    inside-disc = (on_disc-found img t sector a.0 at_address).inside

    pub found : {p : Pointer} → p ≡ pointer_at s t a.0 → Stepped buf buf used (step_in buf used t sector n) (record { pointer = p; stored = n })
    unfolding part store_one step_for
    found {p} ep = stands buf used sector n h p (rw (at_address, ep, es) refl)

  -- not found there: as of a sector that no disc holds
  module _ {s : List ℕ} {r : Option EntryNumber} (es : s ≡ part buf 0 used) (e : entry_found r ≡ on_disc s t sector) (q : r ≡ None) where
    lost : step_in buf used t sector n ≡ add_in buf used sector n
    unfolding entry_found
    lost =
        let items : List (List ℕ) = items_in buf used n (length sector) in
        ap (λ (b : ℕ). store_one img t b items sector) (length-take-le used buf (omega (arith, h.room)))
        ∙ add-lost used items sector img t (on-disc r es e ∙ ap entry_found q)

    pub adds : Steps buf used sector (add_in buf used sector n)
    adds = subst (Steps buf used sector) lost h

    pub added : {after : List ℕ} {y : Handed} → Stepped buf after used (add_in buf used sector n) y → Stepped buf after used (step_in buf used t sector n) y
    added {after} {y} w = subst (λ (x : Step). Stepped buf after used x y) (sym lost) w
