-- Where all that is appended to a new image stands, and what the code leaves there.
use mathlib.Core.List.{List, [], ◌∷◌, ◌++◌, flatten}
use mathlib.Core.Logic.{⊎_elim}
use mathlib.Core.Option.{Option, none, some}
use mathlib.Core.Path.{◌≡◌, refl, sym, ap, ◌∙◌}
use Prim.Native.Nat.{ℕ, zero, suc, ◌+◌, ◌-◌, ◌*◌, ◌≤◌, max, zero-le}
use native.Mathlib.Nat.{le_refl, mul-le-mul_right}
use native.Mathlib.Omega.{arith}
use lib.ListN.{length, take, length-append}
use lib.Seq.{length-take-le}
use Rattle.fields.specs.Bytes.{part, overwrite}
use Rattle.fields.proofs.Overwrite.{length-overwrite, take-overwrite}
use Rattle.format.specs.declared.Entry.{Entry}
use Rattle.format.specs.declared.Pointer.{Pointer}
use Rattle.format.specs.Lists.{All}
use Rattle.format.specs.Layouts.{DDT*, DBLK, entry_length, user_data_entry, index_header_length, index_bytes, block_header_length, table_header, table_bytes, table_header_length, table_entry_length}
use Rattle.format.specs.Writing.{longest_buffer, set_header}
use Rattle.format.specs.Creating.{created_index_at, created_used, created_entries}
use Rattle.format.specs.Committing.{among_stored, store_all, item_or_zero, largest_item, shift_for, new_table, new_block, new_block_entry, kept_entries, table_start, index_start, used_after, appended_for}
use Rattle.format.specs.Facts.{replaced, end, block_entry}
use Rattle.format.proofs.Lists.{Sized}
use Rattle.format.proofs.Bytes.{tag-bytes}
use Rattle.format.proofs.KeptEntries.{reindexed-back}
use Rattle.format.proofs.Storing.{among_stored-found, shift-least, length-entries}
use Rattle.format.proofs.Written.{length-index_bytes}
use Rattle.format.proofs.Ends.{length-new_block, length-new_table, length_some, block-entry, entry-some}
use Rattle.records.specs.Blocks.{header_for}
use Rattle.records.proofs.Sealed.{data-sealed, all-sealed}
use Rattle.indexing.specs.Entries.{new_entries, Indexes}
use Rattle.storing.specs.Stores.{table_entries_bytes}
use Rattle.storing.specs.Turns.{add_at}
use Rattle.storing.proofs.Pieces.{most-items}
use Rattle.storing.proofs.Steps.{add-again, add-new}
use Rattle.composing.specs.declared.Layout.{Layout}
use Rattle.composing.specs.Composes.{handed, stored_of, pointer_of, pointers_of, appended_of, layout_of, filled, composed_in, Sectors, Lays, Plan, Fits}
use Rattle.composing.proofs.Handed.{some_or_none, pointer-some, pointer_none, items-some, items-none, items-sized, pointers-length}

-- ---- the largest item number is that of the last stored sector
largest-more : (ps : List (Option Pointer)) (p : Option Pointer) → largest_item (ps ++ (p ∷ [])) ≡ max (largest_item ps) (item_or_zero p)
unfolding largest_item
largest-more [] p = omega arith
largest-more (q ∷ ps) p = let ih = largest-more ps p in omega arith

module _ (block : ℕ) where
  step-largest : (st : List (List ℕ)) (d : List ℕ) → max (length st - 1) (add_at block st d).pointer.item.0 ≡ length (add_at block st d).stored - 1
  step-largest st d = go (among_stored st d) refl
    where
      go : (u : Option ℕ) → among_stored st d ≡ u → max (length st - 1) (add_at block st d).pointer.item.0 ≡ length (add_at block st d).stored - 1
      go (some j) e = rw (add-again block st d e) (omega (arith, (among_stored-found st d j e).0))
      go none e = rw (add-new block st d e) (simp length-append (omega arith))

  module _ (f : ℕ → List ℕ) where
    abbrev items : ℕ → List (List ℕ)
    items k = (stored_of block f k).items

    last-item : (k : ℕ) → max (length (items k) - 1) (item_or_zero (pointer_of block (items k) (f k))) ≡ length (items (suc k)) - 1
    unfolding item_or_zero
    last-item k =
        ⊎_elim
        (λ s. rw (pointer-some block (items k) (f k) s, items-some block f k s) (step-largest (items k) (f k)))
        (λ z. rw (pointer_none block (items k) (f k) z, items-none block f k z) (omega arith)) (some_or_none (f k))

    largest-is : (k : ℕ) → largest_item (pointers_of block f k) ≡ length (items k) - 1
    unfolding largest_item handed store_all pointers_of
    largest-is zero = refl
    largest-is (suc k) = largest-more (pointers_of block f k) _ ∙ ap (λ n. max n (item_or_zero (pointer_of block (items k) (f k)))) (largest-is k) ∙ last-item k

-- the index of a new image keeps the table's entry
kept-one : (table : ℕ) → kept_entries table created_entries ≡ user_data_entry DDT* table ∷ []
kept-one table = reindexed-back table created_entries _ (replaced (record { type = tag-bytes DDT* tt; user_data = refl }) end)

-- ---- where it stands
pub record Stands (count size stored : ℕ) (at : Layout) : Type 0 where
  pub first : at.first.0 ≡ created_index_at count
  pub used : at.used ≡ created_used count
  pub table : at.table.0 ≡ created_used count + (block_header_length + stored * size)
  pub index : at.index.0 ≡ created_used count + (block_header_length + stored * size) + (table_header_length + table_entry_length * count)
  pub end : at.end ≡ at.index.0 + (index_header_length + 2 * entry_length)
  pub shift : at.shift ≡ shift_for (stored - 1)

laid-stands : {count size stored : ℕ} {at : Layout} → at ≡ layout_of count size stored → Stands count size stored at
unfolding layout_of
laid-stands e = rw e (record { first = refl; used = refl; table = refl; index = refl; end = refl; shift = refl })

-- where there is room for all of it there is for the new image
image-room : {count size stored length : ℕ} {at : Layout} → Stands count size stored at → at.end ≤ length → created_used count ≤ length
image-room s h = omega (arith, s.end, s.index)

module _ {f : ℕ → List ℕ} {count size stored : ℕ} {at : Layout} (p : Plan f count size stored at) where
  abbrev used : ℕ
  used = created_used count

  abbrev block_items : List (List ℕ)
  block_items = (stored_of used f count).items

  abbrev pointers : List (Option Pointer)
  pointers = pointers_of used f count

  pub stands : Stands count size stored at
  stands = laid-stands p.laid

  pub image-fits : {length : ℕ} → at.end ≤ length → used ≤ length
  image-fits h = image-room stands h

  sized : All (Sized size) block_items
  sized = items-sized used f p.sectors count (le_refl count)

  block-length : length (new_block size block_items) ≡ block_header_length + stored * size
  block-length = length-new_block size block_items sized ∙ rw (← p.counted) (length_some stored size p.some)

  table_is : table_start used (new_block size block_items) ≡ at.table.0
  unfolding table_start
  table_is = omega (arith, block-length, stands.table)

  -- the index has the table's entry and the block's
  block_one : block_entry used stored ≡ user_data_entry DBLK used ∷ []
  block_one = entry-some used stored p.some

  index_is : (appended_of f size count).index ≡ index_bytes (user_data_entry DDT* at.table.0 ∷ user_data_entry DBLK used ∷ [])
  unfolding appended_for
  index_is =
      let one : new_block_entry used block_items ≡ user_data_entry DBLK used ∷ [] = block-entry used block_items ∙ ap (block_entry used) (sym p.counted) ∙ block_one in
      λ j. index_bytes (kept-one (table_is j) j ++ one j)

  pub start_is : index_start used (appended_of f size count) ≡ at.index.0
  unfolding index_start table_start appended_for
  start_is = omega (arith, stands.index, block-length, length-new_table pointers, pointers-length used f count)

  pub end_is : used_after used (appended_of f size count) ≡ at.end
  unfolding used_after
  end_is = omega (arith, start_is, stands.end, ap length index_is, length-index_bytes (user_data_entry DDT* at.table.0 ∷ user_data_entry DBLK used ∷ []))

-- ---- where it would stand if n sectors were stored, no fewer than are
pub record Most (f : ℕ → List ℕ) (count size n : ℕ) (most : Layout) : Type 0 where
  pub sectors : Sectors f count size
  pub few : length (stored_of (created_used count) f count).items ≤ n
  pub laid : most ≡ layout_of count size n

module _ {f : ℕ → List ℕ} {count size n : ℕ} {most : Layout} (m : Most f count size n most) where
  pub most-used : most.used ≡ created_used count
  most-used = (laid-stands m.laid).used

  -- with room for that
  pub most-image : {length : ℕ} → most.end ≤ length → created_used count ≤ length
  most-image h = image-room (laid-stands m.laid) h

  pub most-lays : {buf : List ℕ} → length buf ≤ longest_buffer → most.end ≤ length buf → Lays buf f count size most
  unfolding shift_for
  most-lays short room =
      let s = laid-stands m.laid in
      record {
        sectors = m.sectors;
        short = short;
        items = rw s.used (omega (arith, s.table, mul-le-mul_right size m.few));
        entries = omega (arith, s.table, s.index, s.end);
        low = rw s.shift (shift-least 64 0 (n - 1) 32 zero-le (omega (arith, s.index, s.end, most-items n size m.sectors.pos)));
      }

  module _ {stored : ℕ} {at : Layout} (p : Plan f count size stored at) where
    -- all ends before
    pub most-end : at.end ≤ most.end
    most-end =
        let s = laid-stands m.laid in
        let q = stands p in
        omega (arith, s.index, s.end, q.index, q.end, mul-le-mul_right size (rw (← p.counted) at m.few))

    -- the block stands where it would
    pub most-block : (buf : List ℕ) {after : List ℕ} → after ≡ overwrite buf (most.used + block_header_length) (flatten (stored_of most.used f count).items)
        → after ≡ overwrite buf (at.used + block_header_length) (flatten (stored_of at.used f count).items)
    most-block buf e = e ∙ ap (λ n. overwrite buf (n + block_header_length) (flatten (stored_of n f count).items)) (most-used ∙ sym (stands p).used)

-- ---- with room
module _ {buf : List ℕ} {f : ℕ → List ℕ} {count size stored : ℕ} {at : Layout} (w : Fits buf f count size stored at) where
  abbrev p : Plan f count size stored at
  p = w.plan

  pub fits_all : used p + (block_header_length + stored * size) + (table_header_length + table_entry_length * count) + (index_header_length + 2 * entry_length) ≤ length buf
  fits_all = let s = stands p in omega (arith, w.room, s.end, s.index)

  pub fits-lays : Lays buf f count size at
  fits-lays = most-lays (record { sectors = p.sectors; few = omega (arith, p.counted); laid = p.laid }) w.short w.room

  -- ---- the code's writes, from a buffer that is filled
  module _ {b₁ : List ℕ} (e₁ : b₁ ≡ filled buf f count at) where
    pub filled-long : length b₁ ≡ length buf
    filled-long = ap length e₁ ∙ length-overwrite _ (at.table.0 + table_header_length) _ ∙ length-overwrite buf (at.used + block_header_length) _

    -- the block and the table
    module _ {b₂ b₃ : List ℕ} (e₂ : b₂ ≡ overwrite b₁ at.used (header_for stored size (part b₁ (at.used + block_header_length) (stored * size))))
        (e₃ : b₃ ≡ overwrite b₂ at.table.0 (table_header at.shift count (part b₂ (at.table.0 + table_header_length) (table_entry_length * count)))) where
      data_is : b₃ ≡ overwrite buf (used p) (new_block size (block_items p) ++ new_table (pointers p))
      unfolding new_table
      data_is =
          let s = stands p in
          let shift : ℕ = at.shift in
          let l : length (pointers p) ≡ count = pointers-length (used p) f count in
          let least : shift ≡ shift_for (largest_item (pointers p)) = s.shift ∙ ap (λ n. shift_for (n - 1)) p.counted ∙ ap shift_for (sym (largest-is (used p) f count)) in
          data-sealed buf (used p) size at.table.0 shift count (block_items p) (table_entries_bytes shift (pointers p)) (sized p)
          (length-entries shift (pointers p) ∙ ap (λ n. table_entry_length * n) l) (omega (arith, s.table, block-length p)) (rw (← p.counted) (omega (arith, s.table)))
          (omega (arith, s.table, fits_all)) (rw s.used at e₁) (rw (s.used, p.counted) at e₂) e₃
          ∙ (λ j. overwrite buf (used p) (new_block size (block_items p) ++ table_bytes (least j) (sym l j) (table_entries_bytes (least j) (pointers p))))

      -- the index, behind a buffer whose image is the same
      image-is : take (used p) b₃ ≡ take (used p) buf
      image-is = ap (take (used p)) data_is ∙ take-overwrite buf (used p) _ (used p) (omega arith)

      long : length b₃ ≡ length buf
      long = ap length data_is ∙ length-overwrite buf (used p) _

      new-entries : new_entries (take at.used b₃) at.first.0 at.table.0 stored ≡ user_data_entry DDT* at.table.0 ∷ user_data_entry DBLK (used p) ∷ []
      unfolding new_entries
      new-entries =
          let s = stands p in
          let img : length (take (used p) buf) ≡ used p = length-take-le (used p) buf (omega (arith, fits_all)) in
          rw (s.used, s.first, image-is, w.named, img) (λ j. kept-one at.table.0 j ++ block_one p j)

      pub fits-indexes : Indexes b₃ at.used at.first.0 at.index.0 at.table.0 1 stored
      fits-indexes =
          let s = stands p in
          record {
            image = omega (arith, s.used, long, fits_all);
            inside = rw (s.used, s.first, image-is) w.indexed;
            past = omega (arith, s.used, s.index);
            counted = rw (s.used, s.first, image-is, w.named) (ap length (sym (kept-one at.table.0)));
            room = rw new-entries (omega (arith, long, s.end, w.room));
          }

      pub fits-written : (time : ℕ) {b₄ b₅ : List ℕ} → b₄ ≡ overwrite b₃ at.index.0 (index_bytes (new_entries (take at.used b₃) at.first.0 at.table.0 stored))
          → b₅ ≡ set_header b₄ at.index.0 time → b₅ ≡ composed_in buf f size count time
      unfolding appended_for
      fits-written time {b₄} e₄ e₅ =
          all-sealed buf (used p) (appended_of f size count) time data_is
          (e₄ ∙ ap (λ (es : List Entry). overwrite b₃ at.index.0 (index_bytes es)) new-entries ∙ sym (λ j. overwrite b₃ (start_is p j) (index_is p j)))
          (e₅ ∙ ap (λ n. set_header b₄ n time) (sym (start_is p)))
