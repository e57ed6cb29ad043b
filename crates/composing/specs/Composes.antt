-- What a creation and one commit to it store and append, by the sectors alone: no sector of a new disc is written. f n is the sector of table entry n, empty
-- where it has none.
use mathlib.Core.List.{List, [], ◌∷◌, ◌++◌, flatten}
use Rattle.std.specs.Prelude.{◌≢◌, ◌≡◌, ℕ, zero, suc, ◌+◌, ◌-◌, ◌*◌, ◌≤◌, ◌<◌, length, take}
use Rattle.std.proofs.Math.Option.{Option, none, some}
use Rattle.fields.specs.Bytes.{overwrite, to_le}
use Rattle.format.specs.declared.Pointer.{Pointer}
use Rattle.format.specs.Layouts.{index_header_length, entry_length, entry_count, entries, block_header_length, table_header_length, table_entry_length, encode}
use Rattle.format.specs.Writing.{longest_buffer, set_header}
use Rattle.format.specs.Creating.{created_index_at, created_used, created_entries}
use Rattle.format.specs.Committing.{Stored, store_all, shift_for, Appended, index_start, appended_bytes, appended_for}
use Rattle.storing.specs.Stores.{table_entries_bytes}
use Rattle.storing.specs.Turns.{no_disc, add_at, add_in, Steps}
use Rattle.composing.specs.declared.Layout.{Layout}

-- ---- the sectors
-- a member of a list, where there is a sector
unfoldable pub where_any : {A : Type 0} → List ℕ → A → List A
where_any [] a = []
where_any (b ∷ sector) a = a ∷ []

-- those of the first k entries, in order
unfoldable pub handed : (ℕ → List ℕ) → ℕ → List (List ℕ)
handed f zero = []
handed f (suc k) = handed f k ++ where_any (f k) (f k)

-- the entries that have one
unfoldable pub numbers_of : (ℕ → List ℕ) → ℕ → List ℕ
numbers_of f zero = []
numbers_of f (suc k) = numbers_of f k ++ where_any (f k) k

-- what becomes of them, with a block at `block`
abbrev pub stored_of : ℕ → (ℕ → List ℕ) → ℕ → Stored
stored_of block f k = store_all [] no_disc block [] (handed f k)

-- the pointer of an entry with such a sector, where these are stored before it
unfoldable pub pointer_of : ℕ → List (List ℕ) → List ℕ → Option Pointer
pointer_of block items [] = none
pointer_of block items (b ∷ sector) = some (add_at block items (b ∷ sector)).pointer

-- the pointers of the first k entries
unfoldable pub pointers_of : ℕ → (ℕ → List ℕ) → ℕ → List (Option Pointer)
pointers_of block f zero = []
pointers_of block f (suc k) = pointers_of block f k ++ (pointer_of block (stored_of block f k).items (f k) ∷ [])

-- all that is appended to a new image with so many entries
abbrev pub appended_of : (ℕ → List ℕ) → ℕ → ℕ → Appended
appended_of f size count =
    let used = created_used count in
    appended_for used size created_entries (stored_of used f count).items (pointers_of used f count)

-- ---- where it stands
-- if so many sectors are stored: behind the new image a block, a table, and an index of two entries; the largest item number is that of the last stored sector
unfoldable pub layout_of : ℕ → ℕ → ℕ → Layout
layout_of count size stored =
    let used = created_used count in
    let table = used + (block_header_length + stored * size) in
    let index = table + (table_header_length + table_entry_length * count) in
    record {
      first = record { 0 = created_index_at count };
      used = used;
      table = record { 0 = table };
      index = record { 0 = index };
      end = index + (index_header_length + 2 * entry_length);
      shift = shift_for (stored - 1);
    }

-- where entry a of the table stands
abbrev pub entry_at : Layout → ℕ → ℕ
entry_at at a = at.table.0 + table_header_length + table_entry_length * a

-- a buffer with the stored sectors, behind the place of the block's header, and with the table's entries
abbrev pub filled : List ℕ → (ℕ → List ℕ) → ℕ → Layout → List ℕ
filled buf f count at =
    overwrite (overwrite buf (at.used + block_header_length) (flatten (stored_of at.used f count).items))
    (at.table.0 + table_header_length) (table_entries_bytes at.shift (pointers_of at.used f count))

-- with all that is appended to the image of a creation, and the header's two fields set
abbrev pub composed_in : List ℕ → (ℕ → List ℕ) → ℕ → ℕ → ℕ → List ℕ
composed_in buf f size count time =
    let new = appended_of f size count in
    set_header (overwrite buf (created_used count) (appended_bytes new)) (index_start (created_used count) new) time

-- ---- what the functions ask for
-- the sectors of so many entries have this size
pub record Sectors (f : ℕ → List ℕ) (count size : ℕ) : Type 0 where
  pub sized : (n : ℕ) → n < count → length (f n) ≢ 0 → length (f n) ≡ size
  pub pos : size ≢ 0

-- there is room for the stored ones, and behind them for the table's entries
pub record Lays (buf : List ℕ) (f : ℕ → List ℕ) (count size : ℕ) (at : Layout) : Type 0 where
  pub sectors : Sectors f count size
  pub short : length buf ≤ longest_buffer
  pub items : at.used + block_header_length + length (stored_of at.used f count).items * size ≤ at.table.0 + table_header_length
  pub entries : entry_at at count ≤ length buf
  pub low : at.shift ≤ 32

-- there is room for entry a, and for its sector, with `stored` ones behind the place of the block's header
pub record Enters (buf : List ℕ) (at : Layout) (a : ℕ) (sector : List ℕ) (stored : ℕ) : Type 0 where
  pub short : length buf ≤ longest_buffer
  pub step : length sector ≢ 0 → Steps buf at.used sector (add_in buf at.used sector stored)
  pub entry : entry_at at a + table_entry_length ≤ length buf
  pub low : at.shift ≤ 32

-- what is left of it: the entry is 0 where there is no sector
pub record Entered (buf after : List ℕ) (at : Layout) (a : ℕ) (sector : List ℕ) (stored next : ℕ) : Type 0 where
  pub none : length sector ≡ 0 → (next ≡ stored) × (after ≡ overwrite buf (entry_at at a) (to_le table_entry_length 0))
  pub some : length sector ≢ 0
      → (let step = add_in buf at.used sector stored in
      (next ≡ length step.stored)
      × (after ≡ overwrite (overwrite buf (at.used + block_header_length) (flatten step.stored)) (entry_at at a) (to_le table_entry_length (encode at.shift step.pointer))))

-- so many sectors are stored, and this is where all of it stands
pub record Plan (f : ℕ → List ℕ) (count size stored : ℕ) (at : Layout) : Type 0 where
  pub sectors : Sectors f count size
  pub some : stored ≢ 0
  pub counted : stored ≡ length (stored_of (created_used count) f count).items
  pub laid : at ≡ layout_of count size stored

-- there is room for it, behind an image with the index of a new one
pub record Fits (buf : List ℕ) (f : ℕ → List ℕ) (count size stored : ℕ) (at : Layout) : Type 0 where
  pub plan : Plan f count size stored at
  pub short : length buf ≤ longest_buffer
  pub room : at.end ≤ length buf
  pub indexed : created_index_at count + index_header_length + entry_length * entry_count (take (created_used count) buf) (created_index_at count) ≤ created_used count
  pub named : entries (take (created_used count) buf) (created_index_at count) ≡ created_entries

-- such a buffer, with the stored sectors and the table's entries
pub record Filled (buf : List ℕ) (count size stored : ℕ) (at : Layout) : Type 0 where
  pub before : List ℕ
  pub f : ℕ → List ℕ
  pub fits : Fits before f count size stored at
  pub is : buf ≡ filled before f count at

-- what is left of it, whichever sectors they are
abbrev pub Finished : List ℕ → List ℕ → ℕ → ℕ → ℕ → Layout → ℕ → Type 0
Finished buf after count size stored at time =
    (before : List ℕ) (f : ℕ → List ℕ) → Fits before f count size stored at → buf ≡ filled before f count at → after ≡ composed_in before f size count time
