-- A commit to an opened disc: what its parts ask for, and where what it appends stands.
use Rattle.std.specs.Prelude.{List, ◌≡◌, ℕ, ◌+◌, ◌*◌, ◌≤◌, length, take, ℤ, Ok}
use Rattle.format.specs.Layouts.{index_offset, index_header_length, entry_length, entries, table_header_length, table_entry_length}
use Rattle.format.specs.Opening.{Opened, opening}
use Rattle.format.specs.Facts.{block_length_for}
use Rattle.format.specs.Committing.{arguments_verdict, disc_verdict, entry_numbers, largest_item, shift_for, kept_entries}
use Rattle.indexing.specs.Entries.{new_entries}
use Rattle.planning.specs.declared.Planned.{Planned}
use Rattle.planning.specs.Plans.{stored_by, plan_for, pointers_by}
use Rattle.storing.specs.Stores.{Stores}
use Rattle.appending.specs.declared.Layout.{Layout}

-- all checks but 35 have passed, and the image is opened as t
pub record Passed (buf : List ℕ) (used : ℕ) (t : Opened) (addresses : List ℤ) (size : ℕ) (sectors : List ℕ) : Type 0 where
  pub arguments : arguments_verdict buf used addresses size sectors ≡ Ok tt
  pub opens : opening (take used buf) ≡ Ok t
  pub disc : disc_verdict (take used buf) (index_offset (take used buf)) addresses ≡ Ok tt

-- where the new table and the new index stand, behind the image and the new block; where they end; how many index entries are kept
unfoldable pub layout_for : List ℕ → Opened → ℕ → ℕ → Layout
layout_for img t size stored =
    let table = length img + block_length_for stored size in
    let index = table + (table_header_length + table_entry_length * t.count) in
    record {
      table = record { 0 = table };
      index = record { 0 = index };
      end = index + (index_header_length + entry_length * length (new_entries img (index_offset img) table stored));
      kept = length (kept_entries table (entries img (index_offset img)));
    }

-- the block and the table can be written: the table stands behind the block, and its shift is the least
pub record Data (buf : List ℕ) (used : ℕ) (t : Opened) (addresses : List ℕ) (size : ℕ) (sectors : List ℕ) (table shift n : ℕ) : Type 0 where
  pub stores : Stores buf used t addresses size sectors (table + table_header_length) shift
  pub counted : n ≡ length (stored_by (take used buf) t addresses size sectors).items
  pub behind : table ≡ used + block_length_for n size
  pub least : shift ≡ shift_for (largest_item (pointers_by (take used buf) t addresses size sectors))

-- all of it can be written, as planned and laid out
pub record Fits (buf : List ℕ) (used : ℕ) (t : Opened) (addresses : List ℤ) (size : ℕ) (sectors : List ℕ) (plan : Planned) (at : Layout) : Type 0 where
  pub passed : Passed buf used t addresses size sectors
  pub planned : plan ≡ plan_for (take used buf) t (entry_numbers t addresses) size sectors
  pub laid : at ≡ layout_for (take used buf) t size plan.stored
  pub room : at.end ≤ length buf
