-- The demands, as the claims that proofs/ proves of these definitions.
use Rattle.std.specs.Prelude.{true, false, List, [], ◌∷◌, ◌++◌, ◌≢◌, ◌⊎◌, ◌↔◌, ◌≡◌, ℕ, zero, suc, ◌+◌, ◌*◌, ◌≤◌, ◌<◌, length, take, get_or, replicate, ℤ, pos, ◌+ℤ◌, Ok, Err}
use Rattle.fields.specs.Bytes.{part, to_le, overwrite}
use Rattle.format.specs.declared.AddressRange.{AddressRange}
use Rattle.format.specs.declared.Entry.{Entry}
use Rattle.format.specs.declared.Flat.{Flat}
use Rattle.format.specs.declared.Place.{Place}
use Rattle.format.specs.declared.Placed.{Placed}
use Rattle.format.specs.declared.Refusal.{Refusal}
use Rattle.format.specs.declared.Sourced.{Sourced}
use Rattle.format.specs.declared.TableKind.{TableKind}
use Rattle.format.specs.declared.TableKind.TheVariants.{First, Second}
use Rattle.format.specs.Lists.{All, Counts, IsBytes}
use Rattle.format.specs.Refusals.{refusal, Answer}
use Rattle.format.specs.Layouts.{index_offset, index_header_length, entry_count, entry_length, entry_at, entries, block_header_length, sector_size, table_count, table_negative}
use Rattle.format.specs.Opening.{lacks, is_type, table_at, opened, sector_count}
use Rattle.format.specs.Reading.{entry_number, table_entry_at, pointer_at, read, locate}
use Rattle.format.specs.Answers.{bytes_read}
use Rattle.format.specs.Writing.{Outcome, placed}
use Rattle.format.specs.Creating.{create}
use Rattle.format.specs.Committing.{pieces, commit}
use Rattle.format.specs.RollingBack.{rollback}
use Rattle.format.specs.Exporting.{export_exact, flat, export}
use Rattle.format.specs.Importing.{import}
use Rattle.format.specs.Overlaying.{disc_over, read_over, locate_over, source_over}
use Rattle.format.specs.Flattening.{flatten}
use Rattle.format.specs.Histories.{Start, start_on, OfBytes, Call, commits, rolls_back, Point, Moment, reads, ReadTheSame, started, outcome_of, after, at_end, Throughout, Permitted}
use Rattle.format.specs.Facts.{Opens, OpensWith, NotWritten, HasEntry, EntryNames, CreateOk, FlattenArguments, BufferOk, ArgumentsOk, DiscOk, Stores, Reindexed, block_length_for, block_entry}

-- ---- Demand 1: every call refuses by 01's numbers, and says where: "number and place". (That they are given in 01's order, and exactly when their
-- check applies, is how the calls are defined.) These are the numbers that each call gives; none is 0, so that an interface can answer 0 for "accepted".
abbrev pub FromTo : ℕ → ℕ → ℕ → Type 0
FromTo least most n = (least ≤ n) × (n ≤ most)

abbrev pub OpeningNumber : ℕ → Type 0
OpeningNumber n = FromTo 1 14 n ⊎ FromTo 70 72 n

abbrev pub ReadingNumber : ℕ → Type 0
ReadingNumber n = OpeningNumber n ⊎ FromTo 20 27 n ⊎ (n ≡ 73)

abbrev pub CreatingNumber : ℕ → Type 0
CreatingNumber n = FromTo 30 31 n ⊎ (n ≡ 33) ⊎ (n ≡ 35)

abbrev pub CommittingNumber : ℕ → Type 0
CommittingNumber n = OpeningNumber n ⊎ (n ≡ 74) ⊎ (n ≡ 20) ⊎ FromTo 22 27 n ⊎ FromTo 30 35 n

abbrev pub RollingBackNumber : ℕ → Type 0
RollingBackNumber n = OpeningNumber n ⊎ (n ≡ 74) ⊎ FromTo 31 32 n

abbrev pub ExportingNumber : ℕ → Type 0
ExportingNumber n = OpeningNumber n ⊎ FromTo 21 27 n ⊎ (n ≡ 73) ⊎ FromTo 40 41 n

abbrev pub ImportingNumber : ℕ → Type 0
ImportingNumber n = FromTo 30 31 n ⊎ (n ≡ 42) ⊎ (n ≡ 33) ⊎ (n ≡ 35)

-- 8/13: the child's numbers, and "other parent numbers .. with 100 added"
abbrev pub ParentNumber : ℕ → Type 0
ParentNumber n = FromTo 101 114 n ⊎ FromTo 122 127 n ⊎ FromTo 170 173 n

abbrev pub OverNumber : ℕ → Type 0
OverNumber n = ReadingNumber n ⊎ ParentNumber n

-- not 20, since every address of the child's is its own, and not 21, since a sector that is not written is no fault
abbrev pub FlatteningNumber : ℕ → Type 0
FlatteningNumber n = OpeningNumber n ⊎ (n ≡ 74) ⊎ FromTo 22 27 n ⊎ ParentNumber n ⊎ FromTo 30 31 n ⊎ (n ≡ 33) ⊎ (n ≡ 35) ⊎ (n ≡ 40)

-- 1/13's list: the place of each number, of a call that opens the image at o and looks at such table entries
pub data PlaceFor (img : List ℕ) (o : ℕ) (LookedAt : ℕ → Type 0) : ℕ → ℕ → Type 0 where
  -- "0 for 1, 2 and 3"
  at_header : {n : ℕ} → FromTo 1 3 n → PlaceFor img o LookedAt n 0
  -- "the index's offset, as read or handed in, even past the end, for 4, 5, 6, 9 and 10"
  at_index : {n : ℕ} → FromTo 4 6 n ⊎ FromTo 9 10 n → PlaceFor img o LookedAt n o
  -- "the place of the index entry for 7 and 8"
  at_entry : {n : ℕ} (i : ℕ) → FromTo 7 8 n → i < entry_count img o → PlaceFor img o LookedAt n (o + index_header_length + entry_length * i)
  -- "the table's offset for 11 to 14"
  at_table : {n : ℕ} → FromTo 11 14 n → PlaceFor img o LookedAt n (table_at img o)
  -- "the place of the table entry for 22"
  at_table_entry : (n : ℕ) → LookedAt n → PlaceFor img o LookedAt 22 (table_entry_at (opened img o) n)
  -- "the block's offset for 23 to 27"
  at_block : {n : ℕ} (i : ℕ) → FromTo 23 27 n → LookedAt i → PlaceFor img o LookedAt n (pointer_at img (opened img o) i).block.0
  -- "0 for all others"
  at_none : {n : ℕ} → FromTo 20 21 n ⊎ FromTo 30 35 n ⊎ FromTo 40 42 n ⊎ FromTo 70 74 n → PlaceFor img o LookedAt n 0

-- 8/13, a disc over its parent: "places in the parent" are those of its own numbers, to which 100 is added
pub data PlaceOver (child parent : List ℕ) (OfChild OfParent : ℕ → Type 0) : ℕ → ℕ → Type 0 where
  in_child : {n p : ℕ} → PlaceFor child (index_offset child) OfChild n p → PlaceOver child parent OfChild OfParent n p
  in_parent : {n p : ℕ} → PlaceFor parent (index_offset parent) OfParent n p → PlaceOver child parent OfChild OfParent (100 + n) p

-- the table entry that a read of this address looks at
abbrev pub EntryOf : List ℕ → ℤ → ℕ → Type 0
EntryOf img a n = n ≡ entry_number (opened img (index_offset img)) a

-- an entry of the table
abbrev pub AnyEntry : List ℕ → ℕ → Type 0
AnyEntry img n = n < (opened img (index_offset img)).count

-- where the answer is a refusal, its number and its place are such
abbrev pub RefusesBy : {A : Type 0} → (ℕ → Type 0) → (ℕ → ℕ → Type 0) → Answer A → Type 0
RefusesBy N P a = (r : Refusal) → a ≡ Err r → N r.number × P r.number r.place.0

-- a call that looks at no sector
abbrev pub NoSector : ℕ → Type 0
NoSector a = ⊥

pub record Demand1Refusals : Type 0 where
  pub counting : (img : List ℕ) → RefusesBy OpeningNumber (PlaceFor img (index_offset img) NoSector) (sector_count img)
  pub locating : (img : List ℕ) (a : ℤ)
      → RefusesBy ReadingNumber (PlaceFor img (index_offset img) (EntryOf img a)) (locate img a)
  pub creating : (buffer : List ℕ) (count : ℕ) (application : List ℕ) (major minor mediaType creationTime lastWrittenTime : ℕ)
      → RefusesBy CreatingNumber (λ n p. p ≡ 0) (create buffer count application major minor mediaType creationTime lastWrittenTime).result
  pub committing : (buffer : List ℕ) (used : ℕ) (addresses : List ℤ) (size : ℕ) (sectors : List ℕ) (time : ℕ)
      → let img = take used buffer in
      RefusesBy CommittingNumber (PlaceFor img (index_offset img) (AnyEntry img)) (commit buffer used addresses size sectors time).result
  pub rolling_back : (buffer : List ℕ) (used offset time : ℕ)
      → RefusesBy RollingBackNumber (PlaceFor (take used buffer) offset NoSector) (rollback buffer used offset time).result
  pub exporting_exactly : (img out : List ℕ)
      → RefusesBy ExportingNumber (PlaceFor img (index_offset img) (AnyEntry img)) (export_exact img out).result
  pub exporting : (img out : List ℕ)
      → RefusesBy ExportingNumber (PlaceFor img (index_offset img) (AnyEntry img)) (export img out).result
  pub importing : (buffer file : List ℕ) (size : ℕ) (application : List ℕ) (major minor mediaType creationTime lastWrittenTime : ℕ)
      → RefusesBy ImportingNumber (λ n p. p ≡ 0) (import buffer file size application major minor mediaType creationTime lastWrittenTime).result
  pub locating_over : (child parent : List ℕ) (a : ℤ)
      → RefusesBy OverNumber (PlaceOver child parent (EntryOf child a) (EntryOf parent a)) (locate_over child parent a)
  pub flattening : (buffer child parent application : List ℕ) (major minor mediaType creationTime lastWrittenTime : ℕ)
      → RefusesBy FlatteningNumber (PlaceOver child parent (AnyEntry child) (AnyEntry parent))
      (flatten buffer child parent application major minor mediaType creationTime lastWrittenTime).result

-- "Each refusal .. writes nothing": every byte of the buffer is as it was
pub record Demand1Unchanged : Type 0 where
  pub creating : (buffer : List ℕ) (count : ℕ) (application : List ℕ) (major minor mediaType creationTime lastWrittenTime : ℕ) (r : Refusal)
      → (create buffer count application major minor mediaType creationTime lastWrittenTime).result ≡ Err r
      → (create buffer count application major minor mediaType creationTime lastWrittenTime).buffer ≡ buffer
  pub committing : (buffer : List ℕ) (used : ℕ) (addresses : List ℤ) (size : ℕ) (sectors : List ℕ) (time : ℕ) (r : Refusal)
      → (commit buffer used addresses size sectors time).result ≡ Err r → (commit buffer used addresses size sectors time).buffer ≡ buffer
  pub rolling_back : (buffer : List ℕ) (used offset time : ℕ) (r : Refusal)
      → (rollback buffer used offset time).result ≡ Err r → (rollback buffer used offset time).buffer ≡ buffer
  pub exporting_exactly : (img out : List ℕ) (r : Refusal) → (export_exact img out).result ≡ Err r → (export_exact img out).buffer ≡ out
  pub exporting : (img out : List ℕ) (r : Refusal) → (export img out).result ≡ Err r → (export img out).buffer ≡ out
  pub importing : (buffer file : List ℕ) (size : ℕ) (application : List ℕ) (major minor mediaType creationTime lastWrittenTime : ℕ) (r : Refusal)
      → (import buffer file size application major minor mediaType creationTime lastWrittenTime).result ≡ Err r
      → (import buffer file size application major minor mediaType creationTime lastWrittenTime).buffer ≡ buffer
  pub flattening : (buffer child parent application : List ℕ) (major minor mediaType creationTime lastWrittenTime : ℕ) (r : Refusal)
      → (flatten buffer child parent application major minor mediaType creationTime lastWrittenTime).result ≡ Err r
      → (flatten buffer child parent application major minor mediaType creationTime lastWrittenTime).buffer ≡ buffer

-- an address reads as 21: it is not written
abbrev pub Missing : Answer (List ℕ) → Type 0
Missing answer = answer ≡ Err (refusal 21 0)

-- ---- "a call to which none applies is accepted": each call is accepted, and with which value, exactly if these facts hold. No check is mentioned
-- in them: only places, fields, checksums, index entries and lengths (and, of a sector that a disc holds, that some address reads as it).
-- how many sectors an image has, and its lowest address: those of the one table that its index names
pub record HasSectors (img : List ℕ) (range : AddressRange) : Type 0 where
  pub kind : TableKind
  pub table : ℕ
  pub opens : Opens img (index_offset img) kind table
  pub count : range.count ≡ table_count img kind table
  pub lowest : range.lowest.0 +ℤ pos (table_negative img kind table) ≡ pos 0

-- address a of the image names an item, which lies at this place
pub record NamesItem (img : List ℕ) (a : ℤ) (place : Place) : Type 0 where
  pub kind : TableKind
  pub table : ℕ
  pub opens : Opens img (index_offset img) kind table
  pub has_entry : HasEntry img kind table a
  pub names : EntryNames img (index_offset img) kind table has_entry.number
  pub start : place.start.0 ≡ names.block + block_header_length + names.item * sector_size img names.block
  pub size : place.size ≡ sector_size img names.block

-- address a of the image is one of its own, and not written
pub record NamesNothing (img : List ℕ) (a : ℤ) : Type 0 where
  pub kind : TableKind
  pub table : ℕ
  pub opens : Opens img (index_offset img) kind table
  pub has_entry : HasEntry img kind table a
  pub unwritten : NotWritten img kind table has_entry.number

-- address a of a child over its parent names an item: the child's, or, where it is not written there, the parent's
pub data NamesOver (child parent : List ℕ) (a : ℤ) : Sourced → Type 0 where
  the_child : {place : Place} → NamesItem child a place → NamesOver child parent a (record { image = 0; place = place })
  the_parent : {place : Place} → NamesNothing child a → NamesItem parent a place → NamesOver child parent a (record { image = 1; place = place })

-- a disc holds a sector: some address reads as it
pub record Held (img : List ℕ) (sector : List ℕ) : Type 0 where
  pub address : ℤ
  pub reads : read img address ≡ Ok sector

-- what a commit appends to the disc `img`, which has `used` bytes: a data block of the sectors that are stored, if there are any, a table, and an index
-- of the old entries that are kept and, last, the block's
pub record Additions (img : List ℕ) (used size : ℕ) (handed : List (List ℕ)) : Type 0 where
  pub stored : List (List ℕ)
  pub stores : Stores (Held img) [] handed stored
  pub kept : List Entry
  pub keeps : Reindexed (used + block_length_for (length stored) size) (entries img (index_offset img)) kept

abbrev pub new_entries : {img : List ℕ} {used size : ℕ} {handed : List (List ℕ)} → Additions img used size handed → List Entry
new_entries {used = used} a = a.kept ++ block_entry used (length a.stored)

-- committing: the facts of its arguments and of the disc, and what is appended fits
pub record CommitOk (buffer : List ℕ) (used : ℕ) (addresses : List ℤ) (size : ℕ) (sectors : List ℕ) (p : Placed) : Type 0 where
  pub arguments : ArgumentsOk buffer used addresses size sectors
  pub table : ℕ
  pub disc : DiscOk (take used buffer) (index_offset (take used buffer)) addresses table
  pub additions : Additions (take used buffer) used size (pieces (length addresses) size sectors)
  pub index : p.index.0 ≡ used + block_length_for (length additions.stored) size + (49 + 8 * table_count (take used buffer) First table)
  pub end : p.used ≡ p.index.0 + (20 + 16 * length (new_entries additions))
  pub room : p.used ≤ length buffer

-- rolling back: the image opens with this offset in place of the header's
pub record RollbackOk (buffer : List ℕ) (used offset : ℕ) : Type 0 where
  pub buffer_ok : BufferOk buffer used
  pub opens : OpensWith (take used buffer) offset First

-- exporting by 4/13's rule: each table entry names an item, all are of one size, and n is the length of all
pub record ExportExactOk (img out : List ℕ) (n : ℕ) : Type 0 where
  pub kind : TableKind
  pub table : ℕ
  pub opens : Opens img (index_offset img) kind table
  pub names : (i : ℕ) → i < table_count img kind table → EntryNames img (index_offset img) kind table i
  pub size : ℕ
  pub sized : (i : ℕ) (h : i < table_count img kind table) → sector_size img (names i h).block ≡ size
  pub whole : n ≡ table_count img kind table * size
  pub room : n ≤ length out

-- exporting: each table entry names an item or is not written, not all of them the latter unless there is none, and the items are of one size
pub record ExportOk (img out : List ℕ) (n : Flat) : Type 0 where
  pub kind : TableKind
  pub table : ℕ
  pub opens : Opens img (index_offset img) kind table
  pub each : (i : ℕ) → i < table_count img kind table → NotWritten img kind table i ⊎ EntryNames img (index_offset img) kind table i
  pub filled : Counts (NotWritten img kind table) (table_count img kind table) 0 n.filled
  pub some : (table_count img kind table ≡ 0) ⊎ (n.filled < table_count img kind table)
  pub size : ℕ
  pub sized : (i : ℕ) → i < table_count img kind table → (e : EntryNames img (index_offset img) kind table i) → sector_size img e.block ≡ size
  pub whole : n.length ≡ table_count img kind table * size
  pub room : n.length ≤ length out

-- where a new image of so many sectors ends and where its index stands, if one commit stores these in it: behind it a block, a table, and an index of two
-- entries; if there are none, no commit is made
unfoldable pub new_image : ℕ → ℕ → List (List ℕ) → Placed
new_image count size [] = placed (189 + 8 * count) (153 + 8 * count)
new_image count size (d ∷ stored) =
    let index = 189 + 8 * count + (36 + length (d ∷ stored) * size) + (49 + 8 * count) in
    placed (index + (20 + 16 * 2)) index

-- importing: 1 to 65,536 whole sectors, and the image has room; none of the sectors that are stored is on the new disc
pub record ImportOk (buffer file : List ℕ) (size : ℕ) (application : List ℕ) (p : Placed) : Type 0 where
  pub long : length buffer ≤ 4294967296
  pub some : size ≢ 0
  pub small : size ≤ 65536
  pub count : ℕ
  pub counted : FromTo 1 65536 count
  pub whole : length file ≡ count * size
  pub sized : length application ≡ 64
  pub stored : List (List ℕ)
  pub stores : Stores (λ (d : List ℕ). ⊥) [] (pieces count size file) stored
  pub end : p ≡ new_image count size stored
  pub room : p.used ≤ length buffer

-- the sectors, each of this size, that a child over its parent has at the k addresses from n on; every other of these addresses is not written
pub data PairHas (child parent : List ℕ) (size : ℕ) : ℕ → ℕ → List (List ℕ) → Type 0 where
  finished : {n : ℕ} → PairHas child parent size zero n []
  gap : {k n : ℕ} {ds : List (List ℕ)} → Missing (read_over child parent (pos n)) → PairHas child parent size k (suc n) ds
      → PairHas child parent size (suc k) n ds
  sector : {k n : ℕ} {d : List ℕ} {ds : List (List ℕ)} → read_over child parent (pos n) ≡ Ok d → length d ≡ size
      → PairHas child parent size k (suc n) ds → PairHas child parent size (suc k) n (d ∷ ds)

-- flattening: the child opens with a table of the first kind, each of its addresses has a sector or is not written, the sectors are of one size, and the image
-- has room
pub record FlattenOk (buffer child parent application : List ℕ) (p : Placed) : Type 0 where
  pub arguments : FlattenArguments buffer application
  pub table : ℕ
  pub opens : Opens child (index_offset child) First table
  pub counted : FromTo 1 1048576 (table_count child First table)
  pub size : ℕ
  pub small : size ≤ 65536
  pub sectors : List (List ℕ)
  pub has : PairHas child parent size (table_count child First table) 0 sectors
  pub few : length sectors ≤ 65536
  pub stored : List (List ℕ)
  pub stores : Stores (λ (d : List ℕ). ⊥) [] sectors stored
  pub end : p ≡ new_image (table_count child First table) size stored
  pub room : p.used ≤ length buffer

pub record Demand1Accepted : Type 0 where
  pub counting : (img : List ℕ) (range : AddressRange) → (sector_count img ≡ Ok range) ↔ HasSectors img range
  pub locating : (img : List ℕ) (a : ℤ) (p : Place) → (locate img a ≡ Ok p) ↔ NamesItem img a p
  pub creating : (buffer : List ℕ) (count : ℕ) (application : List ℕ) (major minor mediaType creationTime lastWrittenTime : ℕ) (p : Placed)
      → ((create buffer count application major minor mediaType creationTime lastWrittenTime).result ≡ Ok p)
      ↔ (CreateOk buffer count application × (p ≡ placed (189 + 8 * count) (153 + 8 * count)))
  pub committing : (buffer : List ℕ) (used : ℕ) (addresses : List ℤ) (size : ℕ) (sectors : List ℕ) (time : ℕ) (p : Placed)
      → ((commit buffer used addresses size sectors time).result ≡ Ok p) ↔ CommitOk buffer used addresses size sectors p
  pub rolling_back : (buffer : List ℕ) (used offset time : ℕ) (p : Placed)
      → ((rollback buffer used offset time).result ≡ Ok p) ↔ (RollbackOk buffer used offset × (p ≡ placed used offset))
  pub exporting_exactly : (img out : List ℕ) (n : ℕ) → ((export_exact img out).result ≡ Ok n) ↔ ExportExactOk img out n
  pub exporting : (img out : List ℕ) (n : Flat) → ((export img out).result ≡ Ok n) ↔ ExportOk img out n
  pub importing : (buffer file : List ℕ) (size : ℕ) (application : List ℕ) (major minor mediaType creationTime lastWrittenTime : ℕ) (p : Placed)
      → ((import buffer file size application major minor mediaType creationTime lastWrittenTime).result ≡ Ok p) ↔ ImportOk buffer file size application p
  pub locating_over : (child parent : List ℕ) (a : ℤ) (s : Sourced) → (locate_over child parent a ≡ Ok s) ↔ NamesOver child parent a s
  pub flattening : (buffer child parent application : List ℕ) (major minor mediaType creationTime lastWrittenTime : ℕ) (p : Placed)
      → ((flatten buffer child parent application major minor mediaType creationTime lastWrittenTime).result ≡ Ok p) ↔ FlattenOk buffer child parent application p

-- ---- what an accepted call leaves as it was: all of these bytes
pub record Leaves (before after : List ℕ) (Untouched : ℕ → Type 0) : Type 0 where
  pub same_length : length after ≡ length before
  pub bytes : (i : ℕ) → Untouched i → get_or after i 0 ≡ get_or before i 0

-- no byte of the header's indexOffset or lastWrittenTime, by 2/13's numbers
abbrev pub Elsewhere : ℕ → Type 0
Elsewhere i = (i < 80) ⊎ FromTo 88 95 i ⊎ (104 ≤ i)

-- which are set to these
pub record HeaderSet (after : List ℕ) (index time : ℕ) : Type 0 where
  pub index_offset : part after 80 8 ≡ to_le 8 index
  pub lastWrittenTime : part after 96 8 ≡ to_le 8 time

-- "Later bytes of the buffer don't change."; "No other byte changes below the old `used` or from the new one on."; "It sets indexOffset and
-- lastWrittenTime only"
pub record WritesOnly : Type 0 where
  pub creating : (buffer : List ℕ) (count : ℕ) (application : List ℕ) (major minor mediaType creationTime lastWrittenTime : ℕ) (p : Placed)
      → (create buffer count application major minor mediaType creationTime lastWrittenTime).result ≡ Ok p
      → let after = (create buffer count application major minor mediaType creationTime lastWrittenTime).buffer in
      Leaves buffer after (λ i. p.used ≤ i) × HeaderSet after p.index.0 lastWrittenTime
  pub committing : (buffer : List ℕ) (used : ℕ) (addresses : List ℤ) (size : ℕ) (sectors : List ℕ) (time : ℕ) (p : Placed)
      → (commit buffer used addresses size sectors time).result ≡ Ok p
      → let after = (commit buffer used addresses size sectors time).buffer in
      Leaves buffer after (λ i. Elsewhere i × ((i < used) ⊎ (p.used ≤ i))) × HeaderSet after p.index.0 time
  pub rolling_back : (buffer : List ℕ) (used offset time : ℕ) (p : Placed)
      → (rollback buffer used offset time).result ≡ Ok p
      → let after = (rollback buffer used offset time).buffer in
      Leaves buffer after Elsewhere × HeaderSet after offset time
  pub exporting_exactly : (img out : List ℕ) (n : ℕ) → (export_exact img out).result ≡ Ok n → Leaves out (export_exact img out).buffer (λ i. n ≤ i)
  pub exporting : (img out : List ℕ) (n : Flat) → (export img out).result ≡ Ok n → Leaves out (export img out).buffer (λ i. n.length ≤ i)
  pub importing : (buffer file : List ℕ) (size : ℕ) (application : List ℕ) (major minor mediaType creationTime lastWrittenTime : ℕ) (p : Placed)
      → (import buffer file size application major minor mediaType creationTime lastWrittenTime).result ≡ Ok p
      → let after = (import buffer file size application major minor mediaType creationTime lastWrittenTime).buffer in
      Leaves buffer after (λ i. p.used ≤ i) × HeaderSet after p.index.0 lastWrittenTime
  pub flattening : (buffer child parent application : List ℕ) (major minor mediaType creationTime lastWrittenTime : ℕ) (p : Placed)
      → (flatten buffer child parent application major minor mediaType creationTime lastWrittenTime).result ≡ Ok p
      → let after = (flatten buffer child parent application major minor mediaType creationTime lastWrittenTime).buffer in
      Leaves buffer after (λ i. p.used ≤ i) × HeaderSet after p.index.0 lastWrittenTime

-- ---- 11/13: "Commit, rollback, .. and flattening such a child are refused" on a table of the second kind, with 74, "(rollback: at its offset), after
-- opening's": exactly if the image opens with such a table and no check before it applies
pub record SecondRefused : Type 0 where
  pub committing : (buffer : List ℕ) (used : ℕ) (addresses : List ℤ) (size : ℕ) (sectors : List ℕ) (time : ℕ)
      → ((commit buffer used addresses size sectors time).result ≡ Err (refusal 74 0))
      ↔ (ArgumentsOk buffer used addresses size sectors × OpensWith (take used buffer) (index_offset (take used buffer)) Second)
  pub rolling_back : (buffer : List ℕ) (used offset time : ℕ)
      → ((rollback buffer used offset time).result ≡ Err (refusal 74 0)) ↔ (BufferOk buffer used × OpensWith (take used buffer) offset Second)
  pub flattening : (buffer child parent application : List ℕ) (major minor mediaType creationTime lastWrittenTime : ℕ)
      → ((flatten buffer child parent application major minor mediaType creationTime lastWrittenTime).result ≡ Err (refusal 74 0))
      ↔ (FlattenArguments buffer application × OpensWith child (index_offset child) Second)

-- ---- 6/13: the test of an identifier "says yes exactly if the bytes are those letters in that order", at a place and in an index entry
pub record TestsLetters (img : List ℕ) (letters : List ℕ) : Type 0 where
  pub at_place : (at : ℕ) → (lacks img at letters ≡ false) ↔ (part img at (length letters) ≡ letters)
  pub in_entry : (p : ℕ) → p + entry_length ≤ length img → (is_type letters (entry_at img p) ≡ true) ↔ (part img p 4 ≡ letters)

abbrev pub LettersTested : Type 0
LettersTested = (img : List ℕ) → IsBytes img → (letters : List ℕ) → TestsLetters img letters

-- ---- Demand 2, reading: in an image that opens, a sector is given exactly if its table entry names an item of an indexed, intact,
-- unpacked data block, and then it is that item's bytes.
pub record ItemIs (img : List ℕ) (a : ℤ) (sector : List ℕ) : Type 0 where
  pub place : Place
  pub names : NamesItem img a place
  pub bytes : part img place.start.0 place.size ≡ sector

abbrev pub Demand2Reading : Type 0
Demand2Reading = (img : List ℕ) (a : ℤ) (sector : List ℕ) → (read img a ≡ Ok sector) ↔ ItemIs img a sector

-- the same of what the call hands out: some bytes exactly if the address names an item, and then that item's; else none
abbrev pub Demand2Returned : Type 0
Demand2Returned = (img : List ℕ) (a : ℤ) (sector : List ℕ) → ((bytes_read (read img a) ≡ sector) × (sector ≢ [])) ↔ ItemIs img a sector

-- and it is the part that `locate` names, none exactly where `locate` refuses
unfoldable pub part_at : List ℕ → Answer Place → List ℕ
part_at img (Ok p) = part img p.start.0 p.size
part_at img (Err r) = []

abbrev pub ReadIsLocated : Type 0
ReadIsLocated =
    (img : List ℕ) (a : ℤ) → (bytes_read (read img a) ≡ part_at img (locate img a)) × ((p : Place) → locate img a ≡ Ok p → bytes_read (read img a) ≢ [])

-- and where one of the two is refused, so is the other, with the same number and place: what is said of a read's refusals holds of `locate`'s
abbrev pub LocateRefusesAsRead : Type 0
LocateRefusesAsRead = (img : List ℕ) (a : ℤ) (r : Refusal) → (locate img a ≡ Err r) ↔ (read img a ≡ Err r)

-- which lies in the image: whoever is told the place may follow it
abbrev pub LocatedInside : Type 0
LocatedInside = (img : List ℕ) (a : ℤ) (p : Place) → locate img a ≡ Ok p → p.start.0 + p.size ≤ length img

-- ---- the addresses of a disc: every other than those is refused with 20
abbrev pub OutsideRefused : Type 0
OutsideRefused =
    (img : List ℕ) (range : AddressRange) → sector_count img ≡ Ok range
    → (a : ℤ) → ((n : ℕ) → n < range.count → a ≢ range.lowest.0 +ℤ pos n) → read img a ≡ Err (refusal 20 0)

-- ---- a new disc: so many sectors, from address 0 on, none of them written
pub record FreshDisc (img : List ℕ) (count : ℕ) : Type 0 where
  pub sectors : sector_count img ≡ Ok (record { count = count; lowest = record { 0 = pos 0 } })
  pub inside : (n : ℕ) → n < count → read img (pos n) ≡ Err (refusal 21 0)
  pub outside : (a : ℤ) → ((n : ℕ) → n < count → a ≢ pos n) → read img a ≡ Err (refusal 20 0)

abbrev pub Demand2Creating : Type 0
Demand2Creating =
    (buffer : List ℕ) (count : ℕ) (application : List ℕ) (major minor mediaType creationTime lastWrittenTime : ℕ) (p : Placed)
    → (create buffer count application major minor mediaType creationTime lastWrittenTime).result ≡ Ok p
    → FreshDisc (take p.used (create buffer count application major minor mediaType creationTime lastWrittenTime).buffer) count

-- ---- Demand 2, committing: an accepted commit makes the named sectors read as handed in and every other sector read as before: the same bytes, or the
-- same refusal, number and place.
-- A disc that read as `before`, after such a commit reads as `later`
pub record ReadsCommitted (before later : ℤ → Answer (List ℕ)) (addresses : List ℤ) (size : ℕ) (sectors : List ℕ) : Type 0 where
  pub named : (i : ℕ) → i < length addresses → later (get_or addresses i (pos 0)) ≡ Ok (part sectors (i * size) size)
  pub others : (a : ℤ) → All (λ (b : ℤ). b ≢ a) addresses → later a ≡ before a

-- what demand 2 asks of an accepted commit that answered p and left `after`; and its index has the entries that it is to have
pub record CommitKept (buffer : List ℕ) (used : ℕ) (addresses : List ℤ) (size : ℕ) (sectors : List ℕ) (p : Placed) (after : List ℕ) : Type 0 where
  pub disc : ReadsCommitted (read (take used buffer)) (read (take p.used after)) addresses size sectors
  pub additions : Additions (take used buffer) used size (pieces (length addresses) size sectors)
  pub index : entries (take p.used after) p.index.0 ≡ new_entries additions

-- the buffer is one of bytes, as every lent buffer is
abbrev pub Demand2Committing : Type 0
Demand2Committing =
    (buffer : List ℕ) → IsBytes buffer → (used : ℕ) (addresses : List ℤ) (size : ℕ) (sectors : List ℕ) (time : ℕ) (p : Placed)
    → (commit buffer used addresses size sectors time).result ≡ Ok p
    → CommitKept buffer used addresses size sectors p (commit buffer used addresses size sectors time).buffer

-- ---- 4/13, flat sector files. `file` has a piece of this size for each address of an image, by rising address, and each stands so for what a read of the address
-- answers
pub record FlatBy (Stands : Answer (List ℕ) → List ℕ → Type 0) (img file : List ℕ) (size : ℕ) : Type 0 where
  pub range : AddressRange
  pub sectors : sector_count img ≡ Ok range
  pub whole : length file ≡ range.count * size
  pub each : (i : ℕ) → i < range.count → Stands (read img (range.lowest.0 +ℤ pos i)) (part file (i * size) size)

-- the flat file of an image, whose sectors have this size: "all sectors by rising address"
abbrev pub FlatFile : List ℕ → List ℕ → ℕ → Type 0
FlatFile img file size = FlatBy (λ answer piece. answer ≡ Ok piece) img file size

-- an accepted export by 4/13's rule that answered n: the first n bytes are the flat file
pub record ExportedFile (img : List ℕ) (n : ℕ) (after : List ℕ) : Type 0 where
  pub size : ℕ
  pub file : FlatFile img (take n after) size

abbrev pub FlatExporting : Type 0
FlatExporting = (img out : List ℕ) (n : ℕ) → (export_exact img out).result ≡ Ok n → ExportedFile img n (export_exact img out).buffer

-- an accepted import of a flat file: the image is one whose flat file it is, from address 0 on
pub record ImportedDisc (file : List ℕ) (size : ℕ) (img : List ℕ) : Type 0 where
  pub flat : FlatFile img file size
  pub lowest : flat.range.lowest.0 ≡ pos 0

abbrev pub FlatImporting : Type 0
FlatImporting =
    (buffer : List ℕ) → IsBytes buffer → (file : List ℕ) (size : ℕ) (application : List ℕ) → IsBytes application
    → (major minor mediaType creationTime lastWrittenTime : ℕ) (p : Placed)
    → let imported = import buffer file size application major minor mediaType creationTime lastWrittenTime in
    imported.result ≡ Ok p → ImportedDisc file size (take p.used imported.buffer)

-- "Given room, an accepted import, exported, gives the same bytes"
abbrev pub ImportedExported : Type 0
ImportedExported =
    (buffer : List ℕ) → IsBytes buffer → (file : List ℕ) (size : ℕ) (application : List ℕ) → IsBytes application
    → (major minor mediaType creationTime lastWrittenTime : ℕ) (p : Placed)
    → let imported = import buffer file size application major minor mediaType creationTime lastWrittenTime in
    imported.result ≡ Ok p → (out : List ℕ) → length file ≤ length out
    → export_exact (take p.used imported.buffer) out ≡ record { result = Ok (length file); buffer = overwrite out 0 file }

-- an import is accepted, and every address reads as in img, the lowest as 0: 11/13, "such a disc comes back with its lowest address as 0 and the others
-- following"
pub record ImportedBack (img : List ℕ) (lowest : ℤ) (imported : Outcome Placed) : Type 0 where
  pub answer : Placed
  pub accepts : imported.result ≡ Ok answer
  pub same : (a : ℤ) → read (take answer.used imported.buffer) a ≡ read img (lowest +ℤ a)

-- "an accepted export of 1 to 65,536 sectors of at most 65,536 bytes, imported at their size, gives a disc with the same sectors", where the buffer has room,
-- that is, where the import is not refused with 35
abbrev pub ExportedImported : Type 0
ExportedImported =
    (img out : List ℕ) (n : ℕ) → (export_exact img out).result ≡ Ok n
    → let file = take n (export_exact img out).buffer in
    (size : ℕ) (f : FlatFile img file size) → FromTo 1 65536 f.range.count → size ≤ 65536
    → (buffer : List ℕ) → IsBytes buffer → length buffer ≤ 4294967296 → (application : List ℕ) → IsBytes application → length application ≡ 64
    → (major minor mediaType creationTime lastWrittenTime : ℕ)
    → let imported = import buffer file size application major minor mediaType creationTime lastWrittenTime in
    imported.result ≢ Err (refusal 35 0) → ImportedBack img f.range.lowest.0 imported

-- ---- 9/13, the export that fills gaps.
-- a piece of so many bytes stands for a sector: it is what a read gives, or zeros where the address is not written
abbrev pub SectorOrZeros : ℕ → Answer (List ℕ) → List ℕ → Type 0
SectorOrZeros size answer piece = (answer ≡ Ok piece) ⊎ (Missing answer × (piece ≡ replicate size 0))

-- an accepted export that answered n: the first bytes are this file (so its pieces have the size of every written sector, the lowest too), and "how many it
-- filled .. equals the number of addresses reading as 21" (no other address reads so: `OutsideRefused`)
pub record FilledFile (img : List ℕ) (n : Flat) (after : List ℕ) : Type 0 where
  pub size : ℕ
  pub file : FlatBy (SectorOrZeros size) img (take n.length after) size
  pub filled : Counts (λ i. Missing (read img (file.range.lowest.0 +ℤ pos i))) file.range.count 0 n.filled

abbrev pub FilledExporting : Type 0
FilledExporting = (img out : List ℕ) (n : Flat) → (export img out).result ≡ Ok n → FilledFile img n (export img out).buffer

-- "A disc with nothing written still refuses with 21": it has sectors, and each address is not written. No other disc is refused so
pub record NothingWritten (img : List ℕ) : Type 0 where
  pub range : AddressRange
  pub sectors : sector_count img ≡ Ok range
  pub some : range.count ≢ 0
  pub each : (i : ℕ) → i < range.count → Missing (read img (range.lowest.0 +ℤ pos i))

abbrev pub UnwrittenRefused : Type 0
UnwrittenRefused = (img out : List ℕ) → ((export img out).result ≡ Err (refusal 21 0)) ↔ NothingWritten img

-- where nothing is missing both rules come to the same: the same bytes, none filled, or the same refusal, number and place
unfoldable pub none_filled : Answer ℕ → Answer Flat
none_filled (Ok n) = Ok (flat n 0)
none_filled (Err r) = Err r

abbrev pub RulesAgree : Type 0
RulesAgree =
    (img out : List ℕ) → ((a : ℤ) → ¬ Missing (read img a))
    → export img out ≡ record { result = none_filled (export_exact img out).result; buffer = (export_exact img out).buffer }

-- ---- 8/13, a disc over its parent. Demand 2: a sector is given exactly if the child's table entry names an item, or is not written and the parent's names one,
-- and then it is that item's bytes.
-- the image of this number
unfoldable pub image_by : List ℕ → List ℕ → ℕ → List ℕ
image_by child parent zero = child
image_by child parent (suc n) = parent

pub record ItemOver (child parent : List ℕ) (a : ℤ) (sector : List ℕ) : Type 0 where
  pub source : Sourced
  pub names : NamesOver child parent a source
  pub bytes : part (image_by child parent source.image) source.place.start.0 source.place.size ≡ sector

abbrev pub OverReading : Type 0
OverReading = (child parent : List ℕ) (a : ℤ) (sector : List ℕ) → (read_over child parent a ≡ Ok sector) ↔ ItemOver child parent a sector

-- the same of what the call hands out
abbrev pub OverReturned : Type 0
OverReturned =
    (child parent : List ℕ) (a : ℤ) (sector : List ℕ) → ((bytes_read (read_over child parent a) ≡ sector) × (sector ≢ [])) ↔ ItemOver child parent a sector

-- "a second call says which, or gives the same refusal", and a third says where there: what is read is that part of that image
pub record Agreeing (child parent : List ℕ) (a : ℤ) : Type 0 where
  pub source : (s : Sourced) → locate_over child parent a ≡ Ok s → source_over child parent a ≡ Ok s.image
  pub inside : (s : Sourced) → locate_over child parent a ≡ Ok s → s.place.start.0 + s.place.size ≤ length (image_by child parent s.image)
  pub bytes : (s : Sourced) → locate_over child parent a ≡ Ok s
      → read_over child parent a ≡ Ok (part (image_by child parent s.image) s.place.start.0 s.place.size)
  pub refuses : (r : Refusal) → (locate_over child parent a ≡ Err r) ↔ (read_over child parent a ≡ Err r)
  pub source_refuses : (r : Refusal) → (source_over child parent a ≡ Err r) ↔ (read_over child parent a ≡ Err r)

abbrev pub OverAgrees : Type 0
OverAgrees = (child parent : List ℕ) (a : ℤ) → Agreeing child parent a

-- its refusals, by those of the two images: the parent's count only where the child's is 21
pub data RefusedOver (child parent : List ℕ) (a : ℤ) : Refusal → Type 0 where
  by_child : {r : Refusal} → read child a ≡ Err r → r.number ≢ 21 → RefusedOver child parent a r
  by_neither : Missing (read child a) → Missing (read parent a) ⊎ (read parent a ≡ Err (refusal 20 0)) → RefusedOver child parent a (refusal 21 0)
  by_parent : {r : Refusal} → Missing (read child a) → read parent a ≡ Err r → r.number ≢ 20 → r.number ≢ 21
      → RefusedOver child parent a (refusal (100 + r.number) r.place.0)

abbrev pub OverRefused : Type 0
OverRefused = (child parent : List ℕ) (a : ℤ) (r : Refusal) → (read_over child parent a ≡ Err r) ↔ RefusedOver child parent a r

-- flattening: the new image "reads afterwards as the pair did", at every address, the same bytes or the same refusal, number and place
abbrev pub FlattenReads : Type 0
FlattenReads =
    (buffer : List ℕ) → IsBytes buffer → (child parent application : List ℕ) → IsBytes application
    → (major minor mediaType creationTime lastWrittenTime : ℕ) (p : Placed)
    → let flattened = flatten buffer child parent application major minor mediaType creationTime lastWrittenTime in
    flattened.result ≡ Ok p → ReadTheSame (read (take p.used flattened.buffer)) (read_over child parent)

-- and its refusals: behind the child's opening, the first "other than 21 by rising address" of a sector is its own, whatever else is wrong
pub record FirstRefusedOver (child parent : List ℕ) (r : Refusal) : Type 0 where
  pub table : ℕ
  pub opens : Opens child (index_offset child) First table
  pub address : ℕ
  pub inside : address < table_count child First table
  pub here : read_over child parent (pos address) ≡ Err r
  pub other : r.number ≢ 21
  pub before : (n : ℕ) → n < address → (q : Refusal) → read_over child parent (pos n) ≡ Err q → q.number ≡ 21

abbrev pub FlattenRefused : Type 0
FlattenRefused =
    (buffer child parent application : List ℕ) (major minor mediaType creationTime lastWrittenTime : ℕ) (r : Refusal)
    → FlattenArguments buffer application → FirstRefusedOver child parent r
    → (flatten buffer child parent application major minor mediaType creationTime lastWrittenTime).result ≡ Err r

-- ---- Demand 3: one claim over the whole list. `seen` is how the disc of a moment is read: alone, or, by 8/13, "also where each moment is read with the parent,
-- whose bytes stay unchanged".
abbrev pub View : Type 0
View = (ℤ → Answer (List ℕ)) → ℤ → Answer (List ℕ)

-- (a) A rollback, made at m, to the offset of a point: it is accepted, it answers `used` and the offset, and right after it every address
-- reads the same bytes, or the same refusal, number and place, as at the point
pub record ReturnsTo (seen : View) (m : Moment) (offset time : ℕ) (p : Point) : Type 0 where
  pub accepts : (outcome_of m (rolls_back offset time)).result ≡ Ok (placed m.used offset)
  pub same : ReadTheSame (seen (reads (after m (rolls_back offset time)))) (seen p.disc)

-- (d) "A refused call passes buffer and `used` on unchanged."
pub record Unchanged (m n : Moment) : Type 0 where
  pub buffer : n.buffer ≡ m.buffer
  pub used : n.used ≡ m.used

-- (a) for a rollback; (c) for a commit: if it is accepted, the named addresses read as handed in and every other as just before it
unfoldable pub Effect : View → Moment → Call → Type 0
Effect seen m (rolls_back offset time) = All (λ (p : Point). p.offset ≡ offset → ReturnsTo seen m offset time p) m.points
Effect seen m (commits addresses size sectors time) =
    (p : Placed) → (outcome_of m (commits addresses size sectors time)).result ≡ Ok p
    → ReadsCommitted (seen (reads m)) (seen (reads (after m (commits addresses size sectors time)))) addresses size sectors

-- what is promised of a call that is made at m
pub record Promised (seen : View) (m : Moment) (c : Call) : Type 0 where
  pub effect : Effect seen m c
  pub unchanged : (r : Refusal) → (outcome_of m c).result ≡ Err r → Unchanged m (after m c)

-- (b) "No two points have the same offset"
pub data Distinct : List Point → Type 0 where
  nothing : Distinct []
  fresh : {p : Point} {ps : List Point} → All (λ (q : Point). p.offset ≢ q.offset) ps → Distinct ps → Distinct (p ∷ ps)

-- what is promised of the list
pub record Kept (seen : View) (start : Moment) (calls : List Call) : Type 0 where
  pub promises : Throughout (Promised seen) start calls
  pub distinct : Distinct (at_end start calls).points

-- what is lent is bytes
abbrev pub KeptBy : View → Type 0
KeptBy seen =
    (buffer : List ℕ) → IsBytes buffer → (start : Start) → OfBytes start → (p : Placed) → (start_on buffer start).result ≡ Ok p
    → (calls : List Call) → Throughout Permitted (started (start_on buffer start).buffer p) calls
    → Kept seen (started (start_on buffer start).buffer p) calls

abbrev pub Demand3 : Type 0
Demand3 = KeptBy (λ disc. disc)

-- the same lists, whatever the parent is
abbrev pub Demand3Over : Type 0
Demand3Over = (parent : List ℕ) → KeptBy (disc_over parent)
