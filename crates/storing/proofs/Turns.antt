-- One address: its turn where a sector is handed in for it, and where it keeps what it has.
use mathlib.Core.Bool.{true, false}
use mathlib.Core.List.{List}
use mathlib.Core.Option.{some}
use mathlib.Core.Path.{◌≡◌, sym, ap, ◌∙◌, subst}
use Prim.Native.Nat.{ℕ, ◌+◌, ◌*◌, ◌^◌, ◌≤◌, ◌<◌}
use native.Mathlib.Omega.{arith}
use lib.ListN.{length, take, drop}
use lib.Seq.{length-take-le}
use Rattle.fields.specs.Bytes.{part}
use Rattle.fields.proofs.Overwrite.{length_part}
use Rattle.format.specs.Layouts.{block_header_length, encode}
use Rattle.format.specs.Opening.{Opened}
use Rattle.format.specs.Reading.{pointer_at}
use Rattle.format.specs.Writing.{longest_buffer}
use Rattle.format.specs.Committing.{old_pointer}
use Rattle.format.proofs.Tests.{choose-true, choose-false}
use Rattle.format.proofs.Storing.{OnDisc, length-pieces}
use Rattle.search.specs.Found.{Checked}
use Rattle.search.proofs.Stored as stored
use Rattle.planning.specs.Plans.{is_next, sector_of}
use Rattle.planning.proofs.Cursor.{next-listed}
use Rattle.storing.specs.declared.Handed.{Handed}
use Rattle.storing.specs.Turns.{step_at, entry_of, Turn, turn_at, items_in, step_in, Steps, Stepped, Turns, Turned}
use Rattle.storing.proofs.Pieces.{pieces-stand}
use Rattle.storing.proofs.Steps.{Small, old-small, step_small}

module _ {buf : List ℕ} {used : ℕ} {t : Opened} {addresses : List ℕ} {size : ℕ} {sectors : List ℕ} {shift k a n : ℕ}
    (h : Turns buf used t addresses size sectors shift k a n) where
  abbrev img : List ℕ
  img = take used buf

  abbrev start : ℕ
  start = used + block_header_length

  abbrev items : List (List ℕ)
  items = items_in buf used n size

  abbrev turn : Turn
  turn = turn_at img t addresses size sectors items k a

  module _ (e : is_next addresses k a ≡ true) where
    abbrev sector : List ℕ
    sector = sector_of size sectors k

    turn-next : turn ≡ record { items = (step_at img t items sector).stored; pointer = some (step_at img t items sector).pointer; k = k + 1 }
    unfolding turn_at
    turn-next = choose-true (is_next addresses k a) _ _ e

    pub listed : k < length addresses
    listed = next-listed addresses k a e

    pub handed-inside : k * size + size ≤ length sectors
    handed-inside = omega (arith, h.commits.whole, stored.room size listed)

    sector-long : length sector ≡ size
    sector-long = length_part sectors (k * size) size handed-inside

    room : start + length (step_at img t items sector).stored * size ≤ length buf
    room = rw turn-next at h.room

    pub steps : {s : List ℕ} → s ≡ sector_of size sectors k → Checked img t × Steps buf used s (step_in buf used t s n)
    steps {s} es = (
      h.commits.checked,
      subst (λ (x : List ℕ). Steps buf used x (step_in buf used t x n)) (sym es)
          (record { pos = rw sector-long h.commits.pos; short = h.short; room = rw sector-long room }),
    )

    module _ {s after : List ℕ} {r : Handed} (es : s ≡ sector_of size sectors k) (w : Stepped buf after used (step_in buf used t s n) r) where
      stepped : Stepped buf after used (step_at img t items sector) r
      stepped = rw sector-long at (subst (λ (x : List ℕ). Stepped buf after used (step_in buf used t x n) r) es w)

      pub encodes : (shift ≤ 32) × (r.pointer.block.0 < 2 ^ 32) × (r.pointer.item.0 < 2 ^ 32)
      encodes =
          let long : length img ≡ used = length-take-le used buf (omega (arith, room)) in
          let old : (a : ℕ) → OnDisc img t sector a → Small (pointer_at img t a) =
          λ a o. old-small img t a h.commits.checked (omega (arith, room, h.short)) o.inside o.written in
          let p : Small r.pointer = rw stepped.pointer (step_small img t (length img) items sector size old h.commits.pos (omega (arith, room, h.short))) in
          (h.low, p.0, p.1)

      pub handed-in : {entry : ℕ} → entry ≡ encode shift r.pointer
          → Turned buf after used t addresses size sectors shift k a n (record { entry = entry; stored = r.stored; k = k + 1 })
      unfolding entry_of
      handed-in {entry} q =
          record {
            entry = rw turn-next (q ∙ ap (encode shift) stepped.pointer);
            stored = rw turn-next stepped.stored;
            next = rw turn-next;
            buffer = rw turn-next stepped.buffer;
          }

  module _ (e : is_next addresses k a ≡ false) {s : List ℕ} (es : s ≡ part buf 0 used) where
    turn-old : turn ≡ record { items = items; pointer = old_pointer img t a; k = k }
    unfolding turn_at
    turn-old = choose-false (is_next addresses k a) _ _ e

    pub old-readable : Checked s t × (length s ≤ longest_buffer) × (a < t.count) × (shift ≤ 32)
    unfolding part
    old-readable =
        let long : length img ≡ used = length-take-le used buf (omega (arith, h.room)) in
        (rw es h.commits.checked, omega (arith, ap length es, h.room, h.short), h.below, h.low)

    pub kept : {entry : ℕ} → entry ≡ entry_of shift (old_pointer s t a)
        → Turned buf buf used t addresses size sectors shift k a n (record { entry = entry; stored = n; k = k })
    unfolding part
    kept {entry} q =
        let count : length items ≡ n = length-pieces n size (drop start buf) in
        let room : start + n * size ≤ length buf = rw (turn-old, count) at h.room in
        record {
          entry = rw turn-old (q ∙ ap (λ (x : List ℕ). entry_of shift (old_pointer x t a)) es);
          stored = rw turn-old (sym count);
          next = rw turn-old;
          buffer = rw turn-old (sym (pieces-stand buf start n size room));
        }
