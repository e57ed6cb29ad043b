-- What the checks stand for, as facts about places, fields and checksums. proofs/ shows each group of checks passes exactly if its facts hold.
use Prim.{Unit}
use Rattle.std.specs.Prelude.{List, [], ◌∷◌, ◌++◌, ◌≢◌, ◌⊎◌, ◌≡◌, ℕ, zero, suc, ◌+◌, ◌*◌, ◌/◌, ◌%◌, ◌^◌, ◌≤◌, ◌<◌, length, ℤ, pos, ◌+ℤ◌, ◌<ℤ◌}
use Rattle.crc64.specs.Crc.{crc_of}
use Rattle.fields.specs.Bytes.{part, field, to_le}
use Rattle.format.specs.declared.Entry.{Entry}
use Rattle.format.specs.declared.TableKind.{TableKind}
use Rattle.format.specs.declared.TableKind.TheVariants.{First, Second}
use Rattle.format.specs.Lists.{All, Any, Only}
use Rattle.format.specs.Layouts.{AARUFRMT, DICMFRMT, IDX2, DBLK, DDT*, DDT2, CKSM, header_length, image_major_at, index_header_length, entry_count, index_crc64, entry_length, entries, entries_part, user_data_entry, block_header_length, block_data_type, block_compression, sector_size, block_cmp_length, block_length, block_cmp_crc64, block_crc64, block_payload, table_header_length_of, table_data_type, table_compression, table_shift, table_count, table_cmp_length, table_length, table_cmp_crc64, table_crc64, table_payload, entry_width, table_levels, table_blocks, table_overflow, table_size_type, table_alignment, table_negative}

-- the identifier at a place is this one
unfoldable pub Identified : List ℕ → ℕ → List ℕ → Type 0
Identified img at letters = part img at (length letters) ≡ letters

-- the header: checks 1 to 3
pub record HeaderOk (img : List ℕ) : Type 0 where
  pub long : header_length ≤ length img
  pub identifier : Identified img 0 AARUFRMT ⊎ Identified img 0 DICMFRMT
  pub major : field img image_major_at 1 ≡ 2

-- the index at o: checks 4 to 6
pub record IndexOk (img : List ℕ) (o : ℕ) : Type 0 where
  pub low : header_length ≤ o
  pub head : o + index_header_length ≤ length img
  pub identifier : Identified img o IDX2
  pub fits : o + index_header_length + entry_length * entry_count img o ≤ length img
  pub sum : crc_of (entries_part img o) ≡ index_crc64 img o

-- an index entry: checks 7 and 8
pub record EntryOk (img : List ℕ) (e : Entry) : Type 0 where
  pub low : header_length ≤ e.offset.0
  pub fits : e.offset.0 + 4 ≤ length img
  pub identifier : field img e.offset.0 4 ≡ e.blockType

-- an index entry for this kind of block, of user data
pub record UserData (letters : List ℕ) (e : Entry) : Type 0 where
  pub type : to_le 4 e.blockType ≡ letters
  pub user_data : e.dataType ≡ 1

-- an index entry for a table of either kind
abbrev pub NamesTable : Entry → Type 0
NamesTable e = UserData DDT* e ⊎ UserData DDT2 e

-- the table at t is of this kind: of the second exactly if its identifier is 'DDT2'. (An index entry names it, for a table of one of the two.)
unfoldable pub OfKind : List ℕ → ℕ → TableKind → Type 0
OfKind img t First = ¬ Identified img t DDT2
OfKind img t Second = Identified img t DDT2

-- a table of the second kind: checks 70 to 72
pub record SecondOk (img : List ℕ) (t : ℕ) : Type 0 where
  pub levels : table_levels img t ≡ 1
  pub size_type : table_size_type img t ≡ 0
  pub blocks : table_negative img Second t + table_overflow img t ≤ table_blocks img t

unfoldable pub ExtentOk : List ℕ → TableKind → ℕ → Type 0
ExtentOk img First t = Unit {0}
ExtentOk img Second t = SecondOk img t

-- the table at t, of kind k: checks 11 to 14 and 70 to 72. Its identifier is its index entry's fact
pub record TableOk (img : List ℕ) (k : TableKind) (t : ℕ) : Type 0 where
  pub head : t + table_header_length_of k ≤ length img
  pub compression : table_compression img t ≡ 0
  pub extent : ExtentOk img k t
  pub type : table_data_type img t ≡ 1
  pub shift : table_shift img k t ≤ 32
  pub alignment : table_alignment img k t ≤ 32
  pub whole : table_length img k t ≡ entry_width k * table_count img k t
  pub unpacked : table_cmp_length img k t ≡ table_length img k t
  pub fits : t + table_header_length_of k + table_length img k t ≤ length img
  pub cmp_sum : crc_of (table_payload img k t) ≡ table_cmp_crc64 img k t
  pub sum : crc_of (table_payload img k t) ≡ table_crc64 img k t

-- the image opens, with o for its index's offset: the one table that its index names stands at t and is of kind k
pub record Opens (img : List ℕ) (o : ℕ) (k : TableKind) (t : ℕ) : Type 0 where
  pub header : HeaderOk img
  pub index : IndexOk img o
  pub entries_ok : All (EntryOk img) (entries img o)
  pub named_by : Entry
  pub only : Only NamesTable named_by (entries img o)
  pub place : named_by.offset.0 ≡ t
  pub of_kind : OfKind img t k
  pub table_ok : TableOk img k t

-- the same, wherever the table stands
pub record OpensWith (img : List ℕ) (o : ℕ) (k : TableKind) : Type 0 where
  pub table : ℕ
  pub opens : Opens img o k table

-- a table entry points with this number: of the first kind, every entry but 0, with itself; of the second, status 1 and the pointer in the
-- other 28 bits. "for demand 2 an entry whose status gives 21 or 73 names no item"
pub data PointsWith : TableKind → ℕ → ℕ → Type 0 where
  written : {entry : ℕ} → entry ≢ 0 → PointsWith First entry entry
  dumped : {pointer : ℕ} → pointer < 2 ^ 28 → PointsWith Second (1 * 2 ^ 28 + pointer) pointer

-- entry n of the table at t, of kind k, is not written: of the first kind it is 0, of the second its status, the upper four bits, is 0
unfoldable pub NotWritten : List ℕ → TableKind → ℕ → ℕ → Type 0
NotWritten img First t n = field img (t + 49 + 8 * n) 8 ≡ 0
NotWritten img Second t n = field img (t + 82 + 4 * n) 4 < 2 ^ 28

-- the data block at b, but for its checksums: checks 23 to 25. Its identifier is its index entry's fact
pub record BlockOk (img : List ℕ) (b : ℕ) : Type 0 where
  pub head : b + block_header_length ≤ length img
  pub compression : block_compression img b ≡ 0
  pub type : block_data_type img b ≡ 1
  pub size : sector_size img b ≢ 0
  pub unpacked : block_cmp_length img b ≡ block_length img b
  pub whole : block_length img b % sector_size img b ≡ 0
  pub fits : b + block_header_length + block_length img b ≤ length img

-- item i of the data block at b, which is intact: checks 26 and 27
pub record ItemOk (img : List ℕ) (b i : ℕ) : Type 0 where
  pub block : BlockOk img b
  pub item : i < block_length img b / sector_size img b
  pub cmp_sum : crc_of (block_payload img b) ≡ block_cmp_crc64 img b
  pub sum : crc_of (block_payload img b) ≡ block_crc64 img b

-- ---- a table entry, and an address
-- 11/13: "the entry number is address + `negative`; 20 now applies .. where that number is below 0 or not below entries"
pub record HasEntry (img : List ℕ) (k : TableKind) (t : ℕ) (a : ℤ) : Type 0 where
  pub number : ℕ
  pub numbered : a +ℤ pos (table_negative img k t) ≡ pos number
  pub inside : number < table_count img k t

-- entry n of the table at t, of kind k, names an item of a data block that the index at o names and that is intact and unpacked
pub record EntryNames (img : List ℕ) (o : ℕ) (k : TableKind) (t n : ℕ) : Type 0 where
  pub entry : ℕ
  pub entry_there : field img (t + table_header_length_of k + entry_width k * n) (entry_width k) ≡ entry
  pub pointer : ℕ
  pub written : PointsWith k entry pointer
  pub block : ℕ
  pub block_place : pointer / 2 ^ table_shift img k t * 2 ^ table_alignment img k t ≡ block
  pub item : ℕ
  pub item_number : pointer % 2 ^ table_shift img k t ≡ item
  pub indexed : Any (λ (e : Entry). UserData DBLK e × (e.offset.0 ≡ block)) (entries img o)
  pub item_ok : ItemOk img block item

-- ---- the calls that write. Their bounds are the papers' numbers themselves, so that these facts hold the definitions' constants.
-- creating: checks 31, 30, 33 and 35; "189 + 8E bytes" (2/13)
pub record CreateOk (buffer : List ℕ) (count : ℕ) (application : List ℕ) : Type 0 where
  pub long : length buffer ≤ 4294967296
  pub some : count ≢ 0
  pub few : count ≤ 1048576
  pub sized : length application ≡ 64
  pub room : 189 + 8 * count ≤ length buffer

-- flattening's buffer and application: checks 31 and 33
pub record FlattenArguments (buffer application : List ℕ) : Type 0 where
  pub long : length buffer ≤ 4294967296
  pub named : length application ≡ 64

-- the buffer of a commit or a rollback: checks 31 and 32
pub record BufferOk (buffer : List ℕ) (used : ℕ) : Type 0 where
  pub long : length buffer ≤ 4294967296
  pub inside : used ≤ length buffer

-- "addresses .. strictly rising": each is less than the next
pub data Rising : List ℤ → Type 0 where
  empty : Rising []
  single : {a : ℤ} → Rising (a ∷ [])
  next : {a b : ℤ} {l : List ℤ} → a <ℤ b → Rising (b ∷ l) → Rising (a ∷ b ∷ l)

-- a commit's arguments: checks 31, 32, 30, 33 and 34
pub record ArgumentsOk (buffer : List ℕ) (used : ℕ) (addresses : List ℤ) (size : ℕ) (sectors : List ℕ) : Type 0 where
  pub buffer_ok : BufferOk buffer used
  pub some : size ≢ 0
  pub small : size ≤ 65536
  pub few : length addresses ≤ 65536
  pub whole : length sectors ≡ length addresses * size
  pub rises : Rising addresses

-- the disc that a commit is made to, whose table, of the first kind, stands at t: opening's checks, 74, 20, and those of all sectors but 21
pub record DiscOk (img : List ℕ) (o : ℕ) (addresses : List ℤ) (t : ℕ) : Type 0 where
  pub opens : Opens img o First t
  pub inside : All (HasEntry img First t) addresses
  pub sectors : (n : ℕ) → n < table_count img First t → NotWritten img First t n ⊎ EntryNames img o First t n

-- which sectors are stored, behind those that are stored already, of those handed in: each that neither the old disc nor a stored one holds
pub data Stores (Held : List ℕ → Type 0) : List (List ℕ) → List (List ℕ) → List (List ℕ) → Type 0 where
  all : {stored : List (List ℕ)} → Stores Held stored [] stored
  again : {stored end ds : List (List ℕ)} {d : List ℕ} → Held d ⊎ Any (λ (s : List ℕ). s ≡ d) stored
      → Stores Held stored ds end → Stores Held stored (d ∷ ds) end
  new : {stored end ds : List (List ℕ)} {d : List ℕ} → ¬ (Held d ⊎ Any (λ (s : List ℕ). s ≡ d) stored)
      → Stores Held (stored ++ (d ∷ [])) ds end → Stores Held stored (d ∷ ds) end

-- the entries of a commit's index that come from the old one, where the new table stands at `table`: "the old entries in order, the table's entry
-- replaced in its place, every 'CKSM' entry left out"
pub data Reindexed (table : ℕ) : List Entry → List Entry → Type 0 where
  end : Reindexed table [] []
  stale : {e : Entry} {es fs : List Entry} → to_le 4 e.blockType ≡ CKSM → Reindexed table es fs → Reindexed table (e ∷ es) fs
  replaced : {e : Entry} {es fs : List Entry} → UserData DDT* e → Reindexed table es fs
      → Reindexed table (e ∷ es) (record { blockType = e.blockType; dataType = e.dataType; offset = record { 0 = table } } ∷ fs)
  kept : {e : Entry} {es fs : List Entry} → to_le 4 e.blockType ≢ CKSM → ¬ UserData DDT* e → Reindexed table es fs → Reindexed table (e ∷ es) (e ∷ fs)

-- the new data block, by how many sectors are stored in it: its length, and "the new data block's entry (dataType 1)", where it stands at `place`
unfoldable pub block_length_for : ℕ → ℕ → ℕ
block_length_for zero size = 0
block_length_for (suc n) size = 36 + suc n * size

unfoldable pub block_entry : ℕ → ℕ → List Entry
block_entry place zero = []
block_entry place (suc n) = user_data_entry DBLK place ∷ []
