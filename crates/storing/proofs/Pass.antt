-- The pass over the addresses of the disc. The loop's invariant: what is left, done from here on, leaves what all leaves.
use mathlib.Core.List.{List, ◌∷◌, ◌++◌, flatten}
use mathlib.Core.Option.{Option, none, some}
use mathlib.Core.Path.{◌≡◌, refl, sym, ap, ◌∙◌}
use Prim.Native.Nat.{ℕ, ◌+◌, ◌*◌, ◌≤◌, ◌<◌}
use native.Mathlib.Nat.{add-zero, mul-zero, mul-le-mul_right}
use native.Mathlib.Omega.{arith}
use lib.ListN.{length, take, drop, length-append}
use Rattle.fields.specs.Bytes.{to_le, overwrite}
use Rattle.fields.proofs.Numbers.{length-to_le}
use Rattle.fields.proofs.Overwrite.{length-overwrite, take-overwrite, overwrite-nil, overwrite-comm, length_part}
use Rattle.format.specs.declared.Pointer.{Pointer}
use Rattle.format.specs.Lists.{All, done}
use Rattle.format.specs.Layouts.{block_header_length, table_entry_length}
use Rattle.format.specs.Opening.{Opened}
use Rattle.format.specs.Committing.{pieces, table_entry_bytes}
use Rattle.format.proofs.Lists.{Sized, length-flatten}
use Rattle.format.proofs.Tests.{choose-cases}
use Rattle.format.proofs.Storing.{length-pieces, step_ok, stored_ok, stored-sized}
use Rattle.search.proofs.Stored.{room}
use Rattle.planning.specs.Plans.{is_next, sector_of, stored_by}
use Rattle.planning.proofs.Cursor.{next-listed, left, Walks, walk-starts, left-starts, walk-old, left-old, walk-new, left-new, walk-done, left-done}
use Rattle.storing.specs.declared.Next.{Next}
use Rattle.storing.specs.Stores.{table_entries_bytes, Stores, stored}
use Rattle.storing.specs.Turns.{items_in, entry_of, Turn, turn_at, Turns, Turned}
use Rattle.storing.proofs.Pieces.{pieces-stand, pieces-written, written_next}

-- ---- one turn
module _ (img : List ℕ) (t : Opened) (addresses : List ℕ) (size : ℕ) (sectors : List ℕ) where
  -- at most as many are stored as in the end
  walks-few : {a k : ℕ} {items : List (List ℕ)} → Walks img t addresses size sectors a k items
      → length items ≤ length (stored_by img t addresses size sectors).items
  walks-few {a} {k} {items} w =
      let g = stored_ok img t (length img) (Sized size) (drop k (pieces (length addresses) size sectors)) items in
      rw (← w.items, g.grown) (simp length-append (omega arith))

  -- what the turn of address a leaves
  record Onto (items : List (List ℕ)) (k a : ℕ) (r : Turn) : Type 0 where
    walks : Walks img t addresses size sectors (a + 1) r.k r.items
    goes : left img t addresses size sectors a k items ≡ r.pointer ∷ left img t addresses size sectors (a + 1) r.k r.items
    sized : All (Sized size) items → All (Sized size) r.items

  onto : (items : List (List ℕ)) (k a : ℕ) → length sectors ≡ length addresses * size → a < t.count → Walks img t addresses size sectors a k items
      → Onto items k a (turn_at img t addresses size sectors items k a)
  unfolding turn_at
  onto items k a whole h w =
      choose-cases (Onto items k a) (is_next addresses k a) _ _
      (λ e.
      record {
        walks = walk-new img t addresses size sectors w h e;
        goes = left-new img t addresses size sectors w h e;
        sized = λ hs.
            (step_ok img t (length img) (Sized size) items (sector_of size sectors k)).keeps hs
            (length_part sectors (k * size) size (omega (arith, room size (next-listed addresses k a e))));
      })
      (λ e.
      record {
        walks = walk-old img t addresses size sectors w h e;
        goes = left-old img t addresses size sectors w h e;
        sized = λ hs. hs;
      })

-- ---- the loop
entry-bytes : (shift : ℕ) (u : Option Pointer) → table_entry_bytes shift u ≡ to_le table_entry_length (entry_of shift u)
unfolding table_entry_bytes entry_of
entry-bytes shift none = refl
entry-bytes shift (some p) = refl

module _ (buf₀ : List ℕ) (used : ℕ) (t : Opened) (addresses : List ℕ) (size : ℕ) (sectors : List ℕ) (at shift : ℕ) where
  abbrev img : List ℕ
  img = take used buf₀

  abbrev start : ℕ
  start = used + block_header_length

  -- the sectors that are stored in the end
  abbrev all : List (List ℕ)
  all = (stored_by img t addresses size sectors).items

  abbrev goal : List ℕ
  goal = stored buf₀ used t addresses size sectors at shift

  -- before address a, where n sectors are stored and k addresses are used up
  pub record Going (buf : List ℕ) (n k a : ℕ) : Type 0 where
    pub walks : Walks img t addresses size sectors a k (items_in buf used n size)
    pub long : length buf ≡ length buf₀
    pub image : take used buf ≡ img
    pub sized : All (Sized size) (items_in buf used n size)
    pub bytes : overwrite (overwrite buf start (flatten all)) (at + table_entry_length * a)
        (table_entries_bytes shift (left img t addresses size sectors a k (items_in buf used n size))) ≡ goal

  module _ (h : Stores buf₀ used t addresses size sectors at shift) where
    pub starts : Going buf₀ 0 0 0
    unfolding pieces stored
    starts =
        record {
          walks = walk-starts img t addresses size sectors h.commits.rises;
          long = refl;
          image = refl;
          sized = done;
          bytes = rw (left-starts img t addresses size sectors, mul-zero, add-zero);
        }

    all-long : length (flatten all) ≡ length all * size
    all-long = length-flatten size all (stored-sized img t (length img) (length addresses) size sectors h.commits.whole)

    module _ {buf : List ℕ} {n k a : ℕ} (g : Going buf n k a) where
      abbrev items : List (List ℕ)
      items = items_in buf used n size

      abbrev turn : Turn
      turn = turn_at img t addresses size sectors items k a

      module _ (lt : a < t.count) where
        goes_on : Onto img t addresses size sectors items k a turn
        goes_on = onto img t addresses size sectors items k a h.commits.whole lt g.walks

        -- there is room for the sectors stored after this turn
        few : length turn.items * size ≤ length all * size
        few = mul-le-mul_right size (walks-few img t addresses size sectors goes_on.walks)

        pub turns : Turns buf used t addresses size sectors shift k a n
        turns =
            record {
              commits = rw g.image h.commits;
              below = lt;
              short = omega (arith, g.long, h.short);
              room = rw g.image (omega (arith, few, g.long, h.items, h.entries));
              low = h.low;
            }

        -- the turn, and then the entry
        module _ {r : Next} {mid after : List ℕ} (l : Turned buf mid used t addresses size sectors shift k a n r)
            (e : after ≡ overwrite mid (at + table_entry_length * a) (to_le table_entry_length r.entry)) where
          abbrev place : ℕ
          place = at + table_entry_length * a

          abbrev run : List ℕ
          run = flatten turn.items

          abbrev entry : List ℕ
          entry = to_le table_entry_length r.entry

          abbrev later : List ℕ
          later = table_entries_bytes shift (left img t addresses size sectors (a + 1) turn.k turn.items)

          is : after ≡ overwrite (overwrite buf start run) place entry
          is = e ∙ ap (λ (x : List ℕ). overwrite x place entry) (rw g.image at l.buffer)

          k-is : r.k ≡ turn.k
          k-is = rw g.image at l.next

          entry-is : table_entry_bytes shift turn.pointer ≡ entry
          entry-is = entry-bytes shift turn.pointer ∙ ap (to_le table_entry_length) (sym (rw g.image at l.entry))

          sized_on : All (Sized size) turn.items
          sized_on = goes_on.sized g.sized

          run_long : length run ≡ length turn.items * size
          run_long = length-flatten size turn.items sized_on

          -- the stored sectors lie below the entry
          apart : start + length run ≤ place
          apart = omega (arith, run_long, few, h.items)

          items-are : items_in after used r.stored size ≡ turn.items
          items-are =
              ap (λ (m : ℕ). items_in after used m size) (rw g.image at l.stored)
              ∙ ap (λ (x : List ℕ). items_in x used (length turn.items) size) (is ∙ sym (overwrite-comm buf place entry start run apart))
              ∙ pieces-written (overwrite buf place entry) start size turn.items sized_on
              (rw length-overwrite (omega (arith, few, g.long, h.items, h.entries)))

          left_is : overwrite (overwrite buf start (flatten all)) place (entry ++ later) ≡ goal
          unfolding flatten
          left_is =
              ap (λ (x : List ℕ). overwrite (overwrite buf start (flatten all)) place (x ++ later)) (sym entry-is)
              ∙ ap (λ (x : List (Option Pointer)). overwrite (overwrite buf start (flatten all)) place (table_entries_bytes shift x)) (sym goes_on.goes) ∙ g.bytes

          pub goes : Going after r.stored r.k (a + 1)
          goes =
              let next : place + length entry ≡ at + table_entry_length * (a + 1) = omega (arith, length-to_le table_entry_length r.entry) in
              record {
                walks = rw (items-are, k-is) goes_on.walks;
                long = ap length is ∙ length-overwrite (overwrite buf start run) place entry ∙ length-overwrite buf start run ∙ g.long;
                image =
                    ap (take used) is ∙ take-overwrite (overwrite buf start run) place entry used (omega (arith, h.items))
                    ∙ take-overwrite buf start run used (omega arith) ∙ g.image;
                sized = rw items-are sized_on;
                bytes = rw (items-are, k-is, is, ← next)
                    (written_next buf start place run (flatten all) entry later goal (omega (arith, run_long, few, all-long)) (omega (arith, h.items, all-long))
                    (omega (arith, g.long, h.entries)) left_is);
              }

      pub ends : t.count ≤ a → buf ≡ goal
      unfolding flatten
      ends le =
          let is : items ≡ all = walk-done img t addresses size sectors g.walks h.commits.inside le in
          let count : n ≡ length all = sym (length-pieces n size (drop start buf)) ∙ ap length is in
          let room : start + n * size ≤ length buf = rw count (omega (arith, h.items, h.entries, g.long)) in
          sym (ap (λ (l : List (List ℕ)). overwrite buf start (flatten l)) (sym is) ∙ pieces-stand buf start n size room)
          ∙ sym (overwrite-nil (overwrite buf start (flatten all)) (at + table_entry_length * a))
          ∙ ap (λ (l : List (Option Pointer)). overwrite (overwrite buf start (flatten all)) (at + table_entry_length * a) (table_entries_bytes shift l))
          (sym (left-done img t addresses size sectors a k items le))
          ∙ g.bytes
