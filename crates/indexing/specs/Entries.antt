-- The entries of a new index.
use mathlib.Core.List.{List, ◌++◌, map, flatten}
use Rattle.std.specs.Prelude.{◌≡◌, ℕ, ◌+◌, ◌*◌, ◌≤◌, length, take}
use Rattle.format.specs.declared.Entry.{Entry}
use Rattle.format.specs.Layouts.{index_header_length, entry_length, entry_count, entries, entry_bytes}
use Rattle.format.specs.Facts.{block_entry}
use Rattle.format.specs.Committing.{kept_entries}

-- those of the index at o that are kept, and the new block's
unfoldable pub new_entries : List ℕ → ℕ → ℕ → ℕ → List Entry
new_entries img o table stored = kept_entries table (entries img o) ++ block_entry (length img) stored

-- entries one after another
unfoldable pub entries_bytes : List Entry → List ℕ
entries_bytes es = flatten (map entry_bytes es)

-- what writing the index asks for: the old one lies in the image, the new one past it and in the buffer
pub record Indexes (buf : List ℕ) (used o at table kept stored : ℕ) : Type 0 where
  pub image : used ≤ length buf
  pub inside : o + index_header_length + entry_length * entry_count (take used buf) o ≤ used
  pub past : used ≤ at
  pub counted : kept ≡ length (kept_entries table (entries (take used buf) o))
  pub room : at + index_header_length + entry_length * length (new_entries (take used buf) o table stored) ≤ length buf
