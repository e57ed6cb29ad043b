-- What a commit appends, by what its passes found: where it stands, and what the commit leaves. Assumes nothing.
use mathlib.Core.Bool.{false}
use mathlib.Core.List.{List, [], ◌∷◌, ◌++◌}
use mathlib.Core.Logic.Iff
use mathlib.Core.Option.{Option}
use mathlib.Core.Path.{◌≡◌, sym, ap, ◌∙◌, subst}
use Prim.Native.Nat.{ℕ, zero, suc, ◌+◌, ◌*◌, ◌≤◌, ◌<◌}
use native.Mathlib.Nat.{zero-mul}
use native.Mathlib.Omega.{arith}
use lib.ListN.{length, take, length-append}
use lib.IntN.{ℤ}
use lib.Seq.{length-take-le}
use Rattle.std.specs.Prelude.{Ok, Err}
use Rattle.fields.specs.Bytes.{part, overwrite}
use Rattle.fields.proofs.Overwrite.{length-overwrite, take-overwrite}
use Rattle.format.specs.declared.Placed.{Placed}
use Rattle.format.specs.declared.Pointer.{Pointer}
use Rattle.format.specs.declared.TableKind.TheVariants.{First}
use Rattle.format.specs.Lists.{All, done, more}
use Rattle.format.specs.Layouts.{header_length, index_offset, entry_count, entries, index_bytes, entry_length, block_header_length, table_header_length, table_header, table_bytes, table_entry_length}
use Rattle.format.specs.Refusals.{refusal}
use Rattle.format.specs.Opening.{Opened, opened}
use Rattle.format.specs.Writing.{most_addresses, longest_buffer, placed, set_header}
use Rattle.format.specs.Committing.{any_outside, entry_numbers, sectors_verdict, pieces, Stored, stored_for, pointers_for, largest_item, shift_for, new_block, new_block_entry, new_table, kept_entries, Appended, table_start, index_start, used_after, appended_for, appended, appended_bytes, append, commit_verdict, commit}
use Rattle.format.specs.Answers.{answered}
use Rattle.format.proofs.Tests.{below_true, below-iff, or-iff}
use Rattle.format.proofs.Chains.{stop-last, on-last, goes}
use Rattle.format.proofs.Answers.{outcome-stops, outcome-done}
use Rattle.format.specs.Facts.{ArgumentsOk, block_length_for, block_entry}
use Rattle.format.proofs.Ends.{length-new_block, length-new_table, block-entry}
use Rattle.format.proofs.Checks.{OpenOk, DiscSound, rising-iff, arguments-ok, disc-ok, first_flat, second-iff}
use Rattle.format.proofs.Numbers.{inside-number}
use Rattle.format.proofs.Addresses.{numbers-rise, length-numbers}
use Rattle.format.proofs.Refusals.{row-passes, then-rest}
use Rattle.format.proofs.Storing.{stored-few, stored-sized, length-pieces, length-new_pointers, length-entries}
use Rattle.format.proofs.Appended.{shift_small}
use Rattle.format.proofs.Written.{length-index_bytes}
use Rattle.opening.proofs.Accepted.{opened-is}
use Rattle.checking.proofs.Disc.{disc-opened}
use Rattle.planning.specs.declared.Planned.{Planned}
use Rattle.planning.specs.Plans.{Commits, stored_by, plan_for, pointers_by}
use Rattle.storing.specs.Stores.{Stores, table_entries_bytes, stored}
use Rattle.indexing.specs.Entries.{new_entries, Indexes}
use Rattle.records.specs.Blocks.{header_for}
use Rattle.records.proofs.Sealed.{data-sealed, all-sealed}
use Rattle.appending.specs.Appends.{Passed, layout_for, Data, Fits}
use Rattle.appending.specs.declared.Layout.{Layout}

module _ (img : List ℕ) (t : Opened) (addresses : List ℕ) (size : ℕ) (sectors : List ℕ) (o : opened img (index_offset img) ≡ t)
    (whole : length sectors ≡ length addresses * size) where
  abbrev items : List (List ℕ)
  items = (stored_by img t addresses size sectors).items

  abbrev new : Appended
  new = appended img (index_offset img) addresses size sectors

  abbrev l : Layout
  l = layout_for img t size (length items)

  appended-is : new ≡ appended_for (length img) size (entries img (index_offset img)) items (pointers_by img t addresses size sectors)
  unfolding appended stored_for pointers_for
  appended-is = rw o

  table_is : table_start (length img) (new_block size items) ≡ l.table.0
  unfolding table_start layout_for
  table_is = ap (λ n. length img + n) (length-new_block size items (stored-sized img t (length img) (length addresses) size sectors whole))

  entries-are : kept_entries (table_start (length img) (new_block size items)) (entries img (index_offset img)) ++ new_block_entry (length img) items
      ≡ new_entries img (index_offset img) l.table.0 (length items)
  unfolding new_entries
  entries-are = rw (table_is, block-entry (length img) items)

  block-is : new.block ≡ new_block size items
  unfolding appended_for
  block-is = ap (λ (a : Appended). a.block) appended-is

  new_table-is : new.table ≡ new_table (pointers_by img t addresses size sectors)
  unfolding appended_for
  new_table-is = ap (λ (a : Appended). a.table) appended-is

  index_is : new.index ≡ index_bytes (new_entries img (index_offset img) l.table.0 (length items))
  unfolding appended_for
  index_is = ap (λ (a : Appended). a.index) appended-is ∙ ap index_bytes entries-are

  index_start-is : index_start (length img) new ≡ l.index.0
  unfolding index_start layout_for
  index_start-is =
      ap (λ b. table_start (length img) b + length new.table) block-is ∙ ap (λ n. n + length new.table) table_is
      ∙ ap (λ n. l.table.0 + n) (ap length new_table-is ∙ length-new_table _ ∙ ap (λ n. table_header_length + table_entry_length * n) (length-new_pointers img t addresses _ t.count 0))

  used_after-is : used_after (length img) new ≡ l.end
  unfolding used_after layout_for
  used_after-is =
      ap (λ n. n + length new.index) index_start-is ∙ ap (λ n. l.index.0 + n) (ap length index_is ∙ length-index_bytes _)

-- ---- the layout, from its parts
module _ (img : List ℕ) {o : ℕ} (e : o ≡ index_offset img) where
  pub kept-few : {kept : ℕ} → kept ≤ entry_count img o → OpenOk img (index_offset img) → entry_length * kept ≤ length img
  kept-few h k = omega (arith, rw e at h, k.index.fits)

  pub layout_is : (t : Opened) (size stored : ℕ) {kept count block more : ℕ} → ((table : ℕ) → kept ≡ length (kept_entries table (entries img o)))
      → block ≡ block_length_for stored size → count ≡ t.count → ((place : ℕ) → more ≡ length (block_entry place stored))
      → ◌≡◌ {A = Layout}
      (record {
        table = record { 0 = length img + block };
        index = record { 0 = length img + block + (49 + 8 * count) };
        end = length img + block + (49 + 8 * count) + (20 + 16 * (kept + more));
        kept = kept;
      })
      (layout_for img t size stored)
  unfolding layout_for new_entries
  layout_is t size stored {kept} {count} {block} {more} k b c m =
      let table : ℕ = length img + block_length_for stored size in
      let k' : kept ≡ length (kept_entries table (entries img (index_offset img))) = rw e at (k table) in
      let n : kept + more ≡ length (new_entries img (index_offset img) table stored) =
      omega (arith, k', m (length img), length-append (kept_entries table (entries img (index_offset img))) (block_entry (length img) stored)) in
      λ i. record {
        table = record { 0 = length img + b i };
        index = record { 0 = length img + b i + (49 + 8 * c i) };
        end = length img + b i + (49 + 8 * c i) + (20 + 16 * n i);
        kept = k' i;
      }

-- ---- the block and the table
-- the place of the items is before the table's entries, also where there is no block
block_room : (n size : ℕ) → block_header_length + n * size ≤ block_length_for n size + table_header_length
unfolding block_length_for
block_room zero size = omega (arith, zero-mul size)
block_room (suc n) size = omega arith

module _ {buf : List ℕ} {used : ℕ} {t : Opened} {addresses : List ℕ} {size : ℕ} {sectors : List ℕ} {table shift n : ℕ}
    (d : Data buf used t addresses size sectors table shift n) where
  pub data-room : used + block_header_length + n * size ≤ length buf
  data-room = rw d.counted (omega (arith, d.stores.items, d.stores.entries))

  pub data-written : {b₁ b₂ b₃ : List ℕ} {count : ℕ} → b₁ ≡ stored buf used t addresses size sectors (table + table_header_length) shift
      → b₂ ≡ overwrite b₁ used (header_for n size (part b₁ (used + block_header_length) (n * size))) → count ≡ t.count
      → b₃ ≡ overwrite b₂ table (table_header shift count (part b₂ (table + table_header_length) (table_entry_length * count)))
      → b₃ ≡ overwrite buf used (new_block size (stored_by (take used buf) t addresses size sectors).items ++ new_table (pointers_by (take used buf) t addresses size sectors))
  unfolding stored new_table
  data-written {b₁} {b₂} {b₃} {count} e₁ e₂ c e₃ =
      let img : List ℕ = take used buf in
      let items : List (List ℕ) = (stored_by img t addresses size sectors).items in
      let ps : List (Option Pointer) = pointers_by img t addresses size sectors in
      let sized = stored-sized img t (length img) (length addresses) size sectors d.stores.commits.whole in
      let many : length ps ≡ t.count = length-new_pointers img t addresses _ t.count 0 in
      let behind : table ≡ used + length (new_block size items) = d.behind ∙ ap (λ m. used + block_length_for m size) d.counted ∙ ap (λ m. used + m) (sym (length-new_block size items sized)) in
      data-sealed buf used size table shift (length ps) items _ sized (length-entries shift ps) behind d.stores.items
      (omega (arith, d.stores.entries, many)) e₁ (rw d.counted at e₂) (rw (c ∙ sym many) at e₃)
      ∙ ap (λ m. overwrite buf used (new_block size items ++ table_bytes m (length ps) (table_entries_bytes m ps))) d.least

-- the numbers of addresses that are inside are below the count
numbers-inside : (t : Opened) (l : List ℤ) → any_outside t l ≡ false → All (λ (n : ℕ). n < t.count) (entry_numbers t l)
unfolding entry_numbers any_outside
numbers-inside t [] h = done
numbers-inside t (a ∷ l) h =
    let r = (or-iff Iff.rfl Iff.rfl).0 h in
    more (inside-number t a r.0).inside (numbers-inside t l r.1)

-- ---- a commit all of whose checks but 35 have passed
module _ (buf : List ℕ) (used : ℕ) (t : Opened) (addresses : List ℤ) (size : ℕ) (sectors : List ℕ) (passed : Passed buf used t addresses size sectors) where
  abbrev img : List ℕ
  img = take used buf

  -- by the numbers of their table entries
  abbrev numbers : List ℕ
  numbers = entry_numbers t addresses

  abbrev st : Stored
  st = stored_by img t numbers size sectors

  arguments : ArgumentsOk buf used addresses size sectors
  arguments = (arguments-ok buf used addresses size sectors).0 passed.arguments

  disc : DiscSound img (index_offset img) addresses
  disc = (disc-ok img (index_offset img) addresses).0 passed.disc

  opened-as : opened img (index_offset img) ≡ t
  opened-as = opened-is img t passed.opens

  pub length-img : length img ≡ used
  length-img = length-take-le used buf arguments.buffer_ok.inside

  pub inside : any_outside t addresses ≡ false
  inside = rw opened-as at disc.inside

  -- the table is of the first kind, and so the lowest address is 0
  pub first : t.kind ≡ First
  first = rw opened-as at disc.sound.first

  lowest : t.negative ≡ 0
  lowest = rw opened-as at (first_flat img (index_offset img) disc.sound.first).0

  many : length numbers ≡ length addresses
  many = length-numbers t addresses

  sectors-pass : sectors_verdict img (entries img (index_offset img)) t ≡ Ok tt
  sectors-pass =
      sym (then-rest _ _ (row-passes _ (refusal 20 0) inside))
      ∙ sym (then-rest _ _ (row-passes _ (refusal 74 0) ((second-iff t.kind).1 first)))
      ∙ sym (disc-opened img t addresses passed.opens) ∙ passed.disc

  -- what the two passes ask for
  pub commits : Commits img t numbers size sectors
  commits =
      record {
        checked = (passed.opens, sectors-pass);
        short = omega (arith, length-img, arguments.buffer_ok.inside, arguments.buffer_ok.long);
        rises = numbers-rise t lowest addresses inside ((rising-iff addresses).1 arguments.rises);
        inside = numbers-inside t addresses inside;
        few = rw many arguments.few;
        pos = arguments.some;
        small = arguments.small;
        whole = rw many arguments.whole;
      }

  abbrev added : Appended
  added = appended img (index_offset img) numbers size sectors

  abbrev at : Layout
  at = layout_for img t size (length st.items)

  pub image-inside : used ≤ length buf
  image-inside = arguments.buffer_ok.inside

  pub image-low : header_length ≤ used
  image-low = omega (arith, length-img, disc.sound.opens.header.long)

  -- the largest item number of the new table, with the disc opened as u
  abbrev largest : Opened → ℕ
  largest u = largest_item (pointers_by img u numbers size sectors)

  items-few : length st.items ≤ most_addresses
  items-few = omega (arith, stored-few img t (length img) (pieces (length numbers) size sectors) [], length-pieces (length numbers) size sectors, many, arguments.few)

  -- ---- where there is room, the block and the table can be written
  module _ (room : at.end ≤ length buf) where
    stores : Stores buf used t numbers size sectors (at.table.0 + table_header_length) (shift_for (largest t))
    unfolding layout_for stored_for pointers_for
    stores =
        let few = subst (λ (u : Opened). length (stored_by img u numbers size sectors).items ≤ longest_buffer) (sym opened-as) (omega (arith, items-few)) in
        record {
          commits = commits;
          short = arguments.buffer_ok.long;
          items = omega (arith, length-img, block_room (length st.items) size);
          entries = omega arith;
          low = subst (λ (u : Opened). shift_for (largest u) ≤ 32) opened-as (shift_small img (index_offset img) numbers size sectors disc.sound commits.short few);
        }

    indexes : (b : List ℕ) → length b ≡ length buf → take used b ≡ img
        → Indexes b used (index_offset img) at.index.0 at.table.0 at.kept (length st.items)
    unfolding layout_for
    indexes b l e =
        record {
          image = omega (arith, image-inside);
          inside = rw e (omega (arith, length-img, disc.sound.opens.index.fits));
          past = omega (arith, length-img);
          counted = rw e;
          room = rw e (omega arith);
        }

  -- ---- the buffer once the index and the header's fields are written too
  index-start : index_start used added ≡ at.index.0
  index-start = subst (λ n. index_start n added ≡ at.index.0) length-img (index_start-is img t numbers size sectors opened-as commits.whole)

  used-after : used_after used added ≡ at.end
  used-after = subst (λ n. used_after n added ≡ at.end) length-img (used_after-is img t numbers size sectors opened-as commits.whole)

  all-written : (time : ℕ) {b₁ b₂ b₃ : List ℕ} → b₁ ≡ overwrite buf used (new_block size st.items ++ new_table (pointers_by img t numbers size sectors))
      → b₂ ≡ overwrite b₁ at.index.0 (index_bytes (new_entries (take used b₁) (index_offset img) at.table.0 (length st.items)))
      → b₃ ≡ set_header b₂ at.index.0 time → b₃ ≡ set_header (overwrite buf used (appended_bytes added)) (index_start used added) time
  all-written time {b₁} {b₂} {b₃} e₁ e₂ e₃ =
      let is_block : added.block ≡ new_block size st.items = block-is img t numbers size sectors opened-as commits.whole in
      let is-table : added.table ≡ new_table (pointers_by img t numbers size sectors) = new_table-is img t numbers size sectors opened-as commits.whole in
      let is-index : added.index ≡ index_bytes (new_entries img (index_offset img) at.table.0 (length st.items)) = index_is img t numbers size sectors opened-as commits.whole in
      let f₁ : b₁ ≡ overwrite buf used (added.block ++ added.table) = e₁ ∙ sym (λ j. overwrite buf used (is_block j ++ is-table j)) in
      let kept : take used b₁ ≡ img = ap (take used) f₁ ∙ take-overwrite buf used (added.block ++ added.table) used (omega arith) in
      all-sealed buf used added time f₁
      (e₂ ∙ ap (λ l. overwrite b₁ at.index.0 (index_bytes (new_entries l (index_offset img) at.table.0 (length st.items)))) kept
      ∙ sym (λ j. overwrite b₁ (index-start j) (is-index j)))
      (e₃ ∙ ap (λ n. set_header b₂ n time) (sym index-start))

  -- ---- what the commit answers
  no_room : (time : ℕ) → length buf < at.end → answered (Err (refusal 35 0)) buf ≡ commit buf used addresses size sectors time
  unfolding commit append commit_verdict
  no_room time h =
      rw opened-as
      (outcome-stops buf _ _
      (goes (sym passed.arguments) (goes (sym passed.disc) (stop-last (below_true _ _ (omega (arith, used-after)))))))

  accepted-commit : (time : ℕ) {p : Placed} {after : List ℕ} → at.end ≤ length buf → p ≡ placed at.end at.index.0
      → after ≡ set_header (overwrite buf used (appended_bytes added)) (index_start used added) time
      → answered (Ok p) after ≡ commit buf used addresses size sectors time
  unfolding commit append commit_verdict
  accepted-commit time h e f =
      rw opened-as
      (outcome-done buf (goes (sym passed.arguments) (goes (sym passed.disc) (on-last _ (below-iff.1 (omega (arith, used-after))))))
      (e ∙ sym (ap (λ n. placed n (index_start used added)) used-after ∙ ap (λ n. placed at.end n) index-start)) f)

-- ---- by its plan
module _ {buf : List ℕ} {used : ℕ} {t : Opened} {addresses : List ℤ} {size : ℕ} {sectors : List ℕ} {plan : Planned}
    (passed : Passed buf used t addresses size sectors) (planned : plan ≡ plan_for (take used buf) t (entry_numbers t addresses) size sectors) where
  stored-planned : plan.stored ≡ length (stored_by (take used buf) t (entry_numbers t addresses) size sectors).items
  unfolding plan_for
  stored-planned = ap (λ (p : Planned). p.stored) planned

  pub planned-few : plan.stored ≤ most_addresses
  planned-few = rw stored-planned (items-few buf used t addresses size sectors passed)

  pub refused-35 : {place : Layout} (time : ℕ) → place ≡ layout_for (take used buf) t size plan.stored → length buf < place.end
      → answered (Err (refusal 35 0)) buf ≡ commit buf used addresses size sectors time
  refused-35 time e h =
      no_room buf used t addresses size sectors passed time (rw (ap (λ (l : Layout). l.end) (e ∙ ap (layout_for (take used buf) t size) stored-planned)) at h)

-- ---- all of it, as planned and laid out
module _ {buf : List ℕ} {used : ℕ} {t : Opened} {addresses : List ℤ} {size : ℕ} {sectors : List ℕ} {plan : Planned} {place : Layout}
    (f : Fits buf used t addresses size sectors plan place) where
  stored_is : plan.stored ≡ length (stored_by (take used buf) t (entry_numbers t addresses) size sectors).items
  stored_is = stored-planned f.passed f.planned

  largest-is : plan.largest.0 ≡ largest_item (pointers_by (take used buf) t (entry_numbers t addresses) size sectors)
  unfolding plan_for
  largest-is = ap (λ (p : Planned). p.largest.0) f.planned

  place_is : place ≡ layout_for (take used buf) t size (length (stored_by (take used buf) t (entry_numbers t addresses) size sectors).items)
  place_is = f.laid ∙ ap (layout_for (take used buf) t size) stored_is

  room : (layout_for (take used buf) t size (length (stored_by (take used buf) t (entry_numbers t addresses) size sectors).items)).end ≤ length buf
  room = rw (ap (λ (l : Layout). l.end) place_is) at f.room

  pub fits-data : {shift : ℕ} → shift ≡ shift_for plan.largest.0 → Data buf used t (entry_numbers t addresses) size sectors place.table.0 shift plan.stored
  unfolding layout_for
  fits-data {shift} e =
      let least : shift ≡ shift_for (largest_item (pointers_by (take used buf) t (entry_numbers t addresses) size sectors)) = e ∙ ap shift_for largest-is in
      let l : place.table.0 ≡ length (take used buf) + block_length_for plan.stored size = ap (λ (p : Layout). p.table.0) f.laid in
      record {
        stores = rw (least, ap (λ (p : Layout). p.table.0) place_is) (stores buf used t addresses size sectors f.passed room);
        counted = stored_is;
        behind = l ∙ ap (λ n. n + block_length_for plan.stored size) (length-img buf used t addresses size sectors f.passed);
        least = least;
      }

  pub fits-index : {b : List ℕ} {o : ℕ} → o ≡ index_offset (take used buf)
      → b ≡ overwrite buf used (new_block size (stored_by (take used buf) t (entry_numbers t addresses) size sectors).items ++ new_table (pointers_by (take used buf) t (entry_numbers t addresses) size sectors))
      → Indexes b used o place.index.0 place.table.0 place.kept plan.stored
  fits-index {b} {o} e w =
      rw (e, place_is, stored_is)
      (indexes buf used t addresses size sectors f.passed room b (ap length w ∙ length-overwrite buf used _) (ap (take used) w ∙ take-overwrite buf used _ used (omega arith)))

  pub fits-written : (time : ℕ) {b₁ b₂ b₃ : List ℕ} {o : ℕ} → o ≡ index_offset (take used buf)
      → b₁ ≡ overwrite buf used (new_block size (stored_by (take used buf) t (entry_numbers t addresses) size sectors).items ++ new_table (pointers_by (take used buf) t (entry_numbers t addresses) size sectors))
      → b₂ ≡ overwrite b₁ place.index.0 (index_bytes (new_entries (take used b₁) o place.table.0 plan.stored))
      → b₃ ≡ set_header b₂ place.index.0 time
      → b₃ ≡ set_header (overwrite buf used (appended_bytes (appended (take used buf) (index_offset (take used buf)) (entry_numbers t addresses) size sectors)))
      (index_start used (appended (take used buf) (index_offset (take used buf)) (entry_numbers t addresses) size sectors)) time
  fits-written time e e₁ e₂ e₃ =
      all-written buf used t addresses size sectors f.passed time e₁ (rw (e, place_is, stored_is) at e₂) (rw place_is at e₃)

  pub fits-answers : (time : ℕ) {after : List ℕ}
      → after ≡ set_header (overwrite buf used (appended_bytes (appended (take used buf) (index_offset (take used buf)) (entry_numbers t addresses) size sectors)))
      (index_start used (appended (take used buf) (index_offset (take used buf)) (entry_numbers t addresses) size sectors)) time
      → answered (Ok (placed place.end place.index.0)) after ≡ commit buf used addresses size sectors time
  fits-answers time e =
      accepted-commit buf used t addresses size sectors f.passed time room (ap (λ (l : Layout). placed l.end l.index.0) place_is) e
