-- The second pass of a commit: what it asks for, and what it leaves.
use mathlib.Core.List.{List, map, flatten}
use Rattle.std.proofs.Math.Option.{Option}
use Rattle.std.specs.Prelude.{ℕ, ◌+◌, ◌*◌, ◌≤◌, length, take}
use Rattle.fields.specs.Bytes.{overwrite}
use Rattle.format.specs.declared.Pointer.{Pointer}
use Rattle.format.specs.Layouts.{block_header_length, table_entry_length}
use Rattle.format.specs.Opening.{Opened}
use Rattle.format.specs.Writing.{longest_buffer}
use Rattle.format.specs.Committing.{table_entry_bytes}
use Rattle.planning.specs.Plans.{Commits, stored_by, pointers_by}

-- the new table's entries, one after another
abbrev pub table_entries_bytes : ℕ → List (Option Pointer) → List ℕ
table_entries_bytes shift ps = flatten (map (table_entry_bytes shift) ps)

-- for a buffer whose first `used` bytes are the image, with the new table's entries at `at`
pub record Stores (buf : List ℕ) (used : ℕ) (t : Opened) (addresses : List ℕ) (size : ℕ) (sectors : List ℕ) (at shift : ℕ) : Type 0 where
  pub commits : Commits (take used buf) t addresses size sectors
  pub short : length buf ≤ longest_buffer
  pub items : used + block_header_length + length (stored_by (take used buf) t addresses size sectors).items * size ≤ at
  pub entries : at + table_entry_length * t.count ≤ length buf
  pub low : shift ≤ 32

-- the buffer with the stored sectors after the place of the new block's header, and with the new table's entries
unfoldable pub stored : List ℕ → ℕ → Opened → List ℕ → ℕ → List ℕ → ℕ → ℕ → List ℕ
stored buf used t addresses size sectors at shift =
    let img = take used buf in
    overwrite (overwrite buf (used + block_header_length) (flatten (stored_by img t addresses size sectors).items))
    at (table_entries_bytes shift (pointers_by img t addresses size sectors))
