-- "*Commit* takes buffer, `used`, an address list, a sector size, the sectors' bytes one after another, and a time." The old disc is the
-- image `img`, opened as `t`; a commit opens it at o, its header's index offset. "An empty list is allowed."
use Rattle.std.specs.Prelude.{Bool, true, false, not, ℕ, zero, suc, ◌+◌, ◌*◌, ◌^◌, max, length, take, drop, get_or, ℤ, Ok, Err}
use mathlib.Core.List.{List, [], ◌∷◌, ◌++◌, map, flatten}
use Rattle.std.proofs.Math.Option.{Option, none, some, or_else}
use Rattle.fields.specs.Bytes.{overwrite, to_le, equal}
use Rattle.format.specs.declared.Entry.{Entry}
use Rattle.format.specs.declared.Placed.{Placed}
use Rattle.format.specs.declared.Pointer.{Pointer}
use Rattle.format.specs.Tests.{same, differs, below, less_than, ◌or◌, ◌and◌, choose}
use Rattle.format.specs.Refusals.{refusal, row, ◌then◌, first_refusal, Verdict}
use Rattle.format.specs.Layouts.{DBLK, DDT*, CKSM, index_offset, entries, user_data_entry, index_bytes, block_bytes, table_bytes, table_entry_length, encode}
use Rattle.format.specs.Opening.{is_type, is_user_data, Opened, opened}
use Rattle.format.specs.Reading.{outside, entry_number, not_written, pointer_at, item_bytes, sector_verdict}
use Rattle.format.specs.Writing.{largest_size, most_addresses, buffer_verdict, writable_verdict, Outcome, outcome, placed, set_header}

-- ---- "Order: 31, 32, 30, 33, 34, opening's numbers, 20, then sectors by rising address: the first that reads as a refusal other
-- than 21 gives that number; last 35." 11/13: 74 "after opening's".
-- each is less than the next
unfoldable pub rising_by : {A : Type 0} → (A → A → Bool) → List A → Bool
rising_by less [] = true
rising_by less (a ∷ []) = true
rising_by less (a ∷ b ∷ l) = less a b and rising_by less (b ∷ l)

abbrev pub rising : List ℤ → Bool
rising addresses = rising_by less_than addresses

unfoldable pub arguments_verdict : List ℕ → ℕ → List ℤ → ℕ → List ℕ → Verdict
arguments_verdict buffer used addresses size sectors =
    buffer_verdict buffer used
    then row (same size 0 or below largest_size size or below most_addresses (length addresses)) (refusal 30 0)
    then row (differs (length sectors) (length addresses * size)) (refusal 33 0)
    then row (not (rising addresses)) (refusal 34 0)

-- an address of the list has no table entry
unfoldable pub any_outside : Opened → List ℤ → Bool
any_outside t [] = false
any_outside t (a ∷ addresses) = outside t a or any_outside t addresses

-- a verdict, but for the number 21
unfoldable pub other_than_21 : Verdict → Verdict
other_than_21 (Ok tt) = Ok tt
other_than_21 (Err r) = choose (same r.number 21) (Ok tt) (Err r)

-- the sectors of the whole disc, also those that the commit replaces
unfoldable pub sectors_verdict : List ℕ → List Entry → Opened → Verdict
sectors_verdict img es t = first_refusal (λ n. other_than_21 (sector_verdict img es t n)) t.count 0

unfoldable pub disc_verdict : List ℕ → ℕ → List ℤ → Verdict
disc_verdict img o addresses =
    writable_verdict img o
    then row (any_outside (opened img o) addresses) (refusal 20 0)
    then sectors_verdict img (entries img o) (opened img o)

-- From here on an address stands for its table entry, by its number.
unfoldable pub entry_numbers : Opened → List ℤ → List ℕ
entry_numbers t addresses = map (entry_number t) addresses

-- ---- "Equal sectors are stored once: for each handed-in sector, the old disc is searched by rising address, then the stored sectors of
-- this commit in order; the search stops at the first sector that holds the same bytes, length included, and its pointer is used.
-- Exactly if there is none, the sector is stored as the next item."
-- the first of the k numbers from i on that a test says yes to
unfoldable pub first_with : (ℕ → Bool) → ℕ → ℕ → Option ℕ
first_with f zero i = none
first_with f (suc k) i = choose (f i) (some i) (first_with f k (suc i))

-- address a of the old disc holds these bytes
unfoldable pub holds_sector : List ℕ → Opened → List ℕ → ℕ → Bool
holds_sector img t sector a = not (not_written img t a) and equal (item_bytes img (pointer_at img t a)) sector

-- the first address of the old disc that holds them
unfoldable pub on_disc : List ℕ → Opened → List ℕ → Option ℕ
on_disc img t sector = first_with (holds_sector img t sector) t.count 0

-- the first of the sectors stored so far that is equal, by its number
unfoldable pub among_stored : List (List ℕ) → List ℕ → Option ℕ
among_stored stored sector = first_with (λ j. equal (get_or stored j []) sector) (length stored) 0

abbrev pub item_of : ℕ → ℕ → Pointer
item_of block item = record { block = record { 0 = block }; item = record { 0 = item } }

-- what becomes of one handed-in sector: the sectors stored after it, and its pointer
pub record Step : Type 0 where
  pub stored : List (List ℕ)
  pub pointer : Pointer

-- by what the two searches find; `block` is where the new data block will be
unfoldable pub step_for : List ℕ → Opened → ℕ → List (List ℕ) → List ℕ → Option ℕ → Option ℕ → Step
step_for img t block stored sector (some a) j = record { stored = stored; pointer = pointer_at img t a }
step_for img t block stored sector none (some j) = record { stored = stored; pointer = item_of block j }
step_for img t block stored sector none none = record { stored = stored ++ (sector ∷ []); pointer = item_of block (length stored) }

unfoldable pub store_one : List ℕ → Opened → ℕ → List (List ℕ) → List ℕ → Step
store_one img t block stored sector = step_for img t block stored sector (on_disc img t sector) (among_stored stored sector)

-- what becomes of all of them, in order: the sectors stored in the end, and a pointer for each handed in
pub record Stored : Type 0 where
  pub items : List (List ℕ)
  pub pointers : List Pointer

-- all of them, after those that are stored already
unfoldable pub store_all : List ℕ → Opened → ℕ → List (List ℕ) → List (List ℕ) → Stored
store_all img t block stored [] = record { items = stored; pointers = [] }
store_all img t block stored (d ∷ ds) =
    let one = store_one img t block stored d in
    let rest = store_all img t block one.stored ds in
    record { items = rest.items; pointers = one.pointer ∷ rest.pointers }

-- the handed-in sectors: the first k pieces of a list, each of one size
unfoldable pub pieces : ℕ → ℕ → List ℕ → List (List ℕ)
pieces zero size l = []
pieces (suc k) size l = take size l ∷ pieces k size (drop size l)

-- a commit's: the new data block will stand at the end of the image
unfoldable pub stored_for : List ℕ → ℕ → List ℕ → ℕ → List ℕ → Stored
stored_for img o addresses size sectors = store_all img (opened img o) (length img) [] (pieces (length addresses) size sectors)

-- ---- "a table of the same count": the new pointers by address, none where a sector is not written
unfoldable pub old_pointer : List ℕ → Opened → ℕ → Option Pointer
old_pointer img t a = choose (not_written img t a) none (some (pointer_at img t a))

-- what stands beside address a, where addresses and things come in two lists of one order
unfoldable pub given : {A : Type 0} → List ℕ → List A → ℕ → Option A
given [] ys a = none
given (b ∷ bs) [] a = none
given (b ∷ bs) (y ∷ ys) a = choose (same b a) (some y) (given bs ys a)

-- the pointer of the sector handed in for an address, else the old one
unfoldable pub new_pointer : List ℕ → Opened → List ℕ → List Pointer → ℕ → Option Pointer
new_pointer img t addresses ps a = or_else (given addresses ps a) (old_pointer img t a)

-- those of the k addresses from a on
unfoldable pub new_pointers : List ℕ → Opened → List ℕ → List Pointer → ℕ → ℕ → List (Option Pointer)
new_pointers img t addresses ps zero a = []
new_pointers img t addresses ps (suc k) a = new_pointer img t addresses ps a ∷ new_pointers img t addresses ps k (suc a)

-- those of the whole disc
unfoldable pub pointers_for : List ℕ → ℕ → List ℕ → List Pointer → List (Option Pointer)
pointers_for img o addresses ps = new_pointers img (opened img o) addresses ps (opened img o).count 0

-- "The table's shift is the smallest shift that every item number fits under (each one in the new table is below 2^shift)"
unfoldable pub item_or_zero : Option Pointer → ℕ
item_or_zero none = 0
item_or_zero (some p) = p.item.0

unfoldable pub largest_item : List (Option Pointer) → ℕ
largest_item [] = 0
largest_item (p ∷ ps) = max (item_or_zero p) (largest_item ps)

-- the first of the k shifts from s on under which n fits, else the one after them
unfoldable pub shift_from : ℕ → ℕ → ℕ → ℕ
shift_from zero s n = s
shift_from (suc k) s n = choose (below n (2 ^ s)) s (shift_from k (suc s) n)

unfoldable pub shift_for : ℕ → ℕ
shift_for n = shift_from 64 0 n

-- "old entries are encoded anew for it"
unfoldable pub table_entry_bytes : ℕ → Option Pointer → List ℕ
table_entry_bytes shift none = to_le table_entry_length 0
table_entry_bytes shift (some p) = to_le table_entry_length (encode shift p)

unfoldable pub new_table : List (Option Pointer) → List ℕ
new_table ps =
    let shift = shift_for (largest_item ps) in
    table_bytes shift (length ps) (flatten (map (table_entry_bytes shift) ps))

-- ---- "The index holds the old entries in order, the table's entry replaced in its place, every 'CKSM' entry left out .., and the
-- new data block's entry (dataType 1) last."
unfoldable pub kept_entry : ℕ → Entry → Entry
kept_entry table e =
    choose (is_user_data DDT* e) (record { blockType = e.blockType; dataType = e.dataType; offset = record { 0 = table } }) e

unfoldable pub kept_entries : ℕ → List Entry → List Entry
kept_entries table [] = []
kept_entries table (e ∷ es) = choose (is_type CKSM e) (kept_entries table es) (kept_entry table e ∷ kept_entries table es)

-- "one data block if anything is stored", and its entry
unfoldable pub new_block : ℕ → List (List ℕ) → List ℕ
new_block size [] = []
new_block size (i ∷ is) = block_bytes size (flatten (i ∷ is))

unfoldable pub new_block_entry : ℕ → List (List ℕ) → List Entry
new_block_entry block [] = []
new_block_entry block (i ∷ is) = user_data_entry DBLK block ∷ []

-- ---- "Appended at `used`, without gaps: one data block if anything is stored; a table of the same count; an index."
pub record Appended : Type 0 where
  pub block : List ℕ
  pub table : List ℕ
  pub index : List ℕ

unfoldable pub table_start : ℕ → List ℕ → ℕ
table_start used block = used + length block

unfoldable pub index_start : ℕ → Appended → ℕ
index_start used new = table_start used new.block + length new.table

unfoldable pub used_after : ℕ → Appended → ℕ
used_after used new = index_start used new + length new.index

-- for stored items and new pointers, to an image of `used` bytes whose index has the entries es
unfoldable pub appended_for : ℕ → ℕ → List Entry → List (List ℕ) → List (Option Pointer) → Appended
appended_for used size es items ps =
    let block = new_block size items in
    record {
      block = block;
      table = new_table ps;
      index = index_bytes (kept_entries (table_start used block) es ++ new_block_entry used items);
    }

-- a commit's
unfoldable pub appended : List ℕ → ℕ → List ℕ → ℕ → List ℕ → Appended
appended img o addresses size sectors =
    let st = stored_for img o addresses size sectors in
    appended_for (length img) size (entries img o) st.items (pointers_for img o addresses st.pointers)

unfoldable pub appended_bytes : Appended → List ℕ
appended_bytes new = new.block ++ (new.table ++ new.index)

-- "Then indexOffset and lastWrittenTime are set. No other byte changes below the old `used` or from the new one on. The result is the
-- new `used` and the new index's offset"
unfoldable pub append : List ℕ → ℕ → Verdict → Appended → ℕ → Outcome Placed
append buffer used verdict new time =
    outcome buffer verdict (placed (used_after used new) (index_start used new))
    (set_header (overwrite buffer used (appended_bytes new)) (index_start used new) time)

-- the whole order of checks
unfoldable pub commit_verdict : List ℕ → ℕ → List ℤ → ℕ → List ℕ → Appended → Verdict
commit_verdict buffer used addresses size sectors new =
    arguments_verdict buffer used addresses size sectors
    then disc_verdict (take used buffer) (index_offset (take used buffer)) addresses
    then row (below (length buffer) (used_after used new)) (refusal 35 0)

unfoldable pub commit : List ℕ → ℕ → List ℤ → ℕ → List ℕ → ℕ → Outcome Placed
commit buffer used addresses size sectors time =
    let img = take used buffer in
    let o = index_offset img in
    let new = appended img o (entry_numbers (opened img o) addresses) size sectors in
    append buffer used (commit_verdict buffer used addresses size sectors new) new time
