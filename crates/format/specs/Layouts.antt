-- Layouts: the identifiers, each record's fields and the record as it is written, and what a table entry means.
-- "All little-endian and packed; 'at' counts from the start of the record. The image is the first `used` bytes of a lent buffer."
-- `field img (b + 8) 4` is the 4-byte field at 8 of the record that stands at b.
use mathlib.Core.List.{List, [], ◌∷◌, ◌++◌, map, flatten}
use Rattle.std.specs.Prelude.{ℕ, zero, suc, ◌+◌, ◌*◌, ◌/◌, ◌%◌, ◌^◌, length}
use Prim.Native.Char.{code}
use Prim.Native.String.{String, [] as []ᵗ, ◌∷◌ as ◌∷ᵗ◌}
use Rattle.crc64.specs.Crc.{crc_of}
use Rattle.fields.specs.Bytes.{part, field, from_le}
use Rattle.fields.specs.Layout.{num, raw, layout}
use Rattle.format.specs.declared.Entry.{Entry}
use Rattle.format.specs.declared.Pointer.{Pointer}
use Rattle.format.specs.declared.TableKind.{TableKind}
use Rattle.format.specs.declared.TableKind.TheVariants.{First, Second}

-- ---- identifiers, by their letters. The bytes of a text in ASCII:
abbrev pub ascii : String → List ℕ
ascii []ᵗ = []
ascii (c ∷ᵗ s) = code c ∷ ascii s

abbrev pub AARUFRMT : List ℕ
AARUFRMT = ascii "AARUFRMT"

abbrev pub DICMFRMT : List ℕ
DICMFRMT = ascii "DICMFRMT"

abbrev pub IDX2 : List ℕ
IDX2 = ascii "IDX2"

abbrev pub DBLK : List ℕ
DBLK = ascii "DBLK"

abbrev pub DDT* : List ℕ
DDT* = ascii "DDT*"

abbrev pub DDT2 : List ℕ
DDT2 = ascii "DDT2"

abbrev pub CKSM : List ℕ
CKSM = ascii "CKSM"

-- the number that an identifier's letters make, as an index entry has it
unfoldable pub tag : List ℕ → ℕ
tag letters = from_le letters

-- ---- Header, 104, as 2/13 has it: identifier at 0 (8); application at 8 (64); image major 72, minor 73; application major 74,
-- minor 75; mediaType 76 (4); indexOffset 80 (8); creationTime 88 (8); lastWrittenTime 96 (8).
-- "Where 01 says 72 as header length or lowest offset, read 104"
abbrev pub header_length : ℕ
header_length = 104

-- "The application name is 32 UTF-16 units, so 64 bytes"
abbrev pub application_length : ℕ
application_length = 64

abbrev pub image_major_at : ℕ
image_major_at = 72

abbrev pub index_offset_at : ℕ
index_offset_at = 80

abbrev pub last_written_at : ℕ
last_written_at = 96

unfoldable pub index_offset : List ℕ → ℕ
index_offset img = field img index_offset_at 8

-- a new image's header, of version 2.0
unfoldable pub header_bytes : List ℕ → ℕ → ℕ → ℕ → ℕ → ℕ → ℕ → List ℕ
header_bytes application major minor mediaType index creationTime lastWrittenTime =
    layout (raw AARUFRMT ∷ raw application ∷ num 1 2 ∷ num 1 0 ∷ num 1 major ∷ num 1 minor ∷ num 4 mediaType ∷ num 8 index
    ∷ num 8 creationTime ∷ num 8 lastWrittenTime ∷ [])

-- ---- Index, 20: 'IDX2' at 0; entries 4 (8); crc64 12 (8)
abbrev pub index_header_length : ℕ
index_header_length = 20

unfoldable pub entry_count : List ℕ → ℕ → ℕ
entry_count img o = field img (o + 4) 8

abbrev pub index_crc64 : List ℕ → ℕ → ℕ
index_crc64 img o = field img (o + 12) 8

-- ---- Index entry, 16: blockType 0 (4); dataType 4 (4); offset 8 (8)
abbrev pub entry_length : ℕ
entry_length = 16

unfoldable pub entry_at : List ℕ → ℕ → Entry
entry_at img p = record { blockType = field img p 4; dataType = field img (p + 4) 4; offset = record { 0 = field img (p + 8) 8 } }

-- k entries, one after another from place p on
unfoldable pub entries_from : List ℕ → ℕ → ℕ → List Entry
entries_from img zero p = []
entries_from img (suc k) p = entry_at img p ∷ entries_from img k (p + entry_length)

-- the entries of the index at o
unfoldable pub entries : List ℕ → ℕ → List Entry
entries img o = entries_from img (entry_count img o) (o + index_header_length)

-- "The index checksum covers its entries, the others their payload."
abbrev pub entries_part : List ℕ → ℕ → List ℕ
entries_part img o = part img (o + index_header_length) (entry_length * entry_count img o)

unfoldable pub entry_bytes : Entry → List ℕ
entry_bytes e = layout (num 4 e.blockType ∷ num 4 e.dataType ∷ num 8 e.offset.0 ∷ [])

-- an entry for user data in a block with this identifier
abbrev pub user_data_entry : List ℕ → ℕ → Entry
user_data_entry letters offset = record { blockType = tag letters; dataType = 1; offset = record { 0 = offset } }

unfoldable pub index_header : ℕ → List ℕ → List ℕ
index_header count payload = layout (raw IDX2 ∷ num 8 count ∷ num 8 (crc_of payload) ∷ [])

unfoldable pub index_bytes : List Entry → List ℕ
index_bytes es = let payload = flatten (map entry_bytes es) in index_header (length es) payload ++ payload

-- ---- Data block, 36: 'DBLK' at 0; type 4 (2); compression 6 (2); sectorSize 8 (4); cmpLength 12 (4); length 16 (4);
-- cmpCrc64 20 (8); crc64 28 (8). "Payload follows its header at once."
abbrev pub block_header_length : ℕ
block_header_length = 36

module _ (img : List ℕ) (b : ℕ) where
  abbrev pub block_data_type : ℕ
  block_data_type = field img (b + 4) 2

  abbrev pub block_compression : ℕ
  block_compression = field img (b + 6) 2

  abbrev pub sector_size : ℕ
  sector_size = field img (b + 8) 4

  abbrev pub block_cmp_length : ℕ
  block_cmp_length = field img (b + 12) 4

  abbrev pub block_length : ℕ
  block_length = field img (b + 16) 4

  abbrev pub block_cmp_crc64 : ℕ
  block_cmp_crc64 = field img (b + 20) 8

  abbrev pub block_crc64 : ℕ
  block_crc64 = field img (b + 28) 8

  abbrev pub block_payload : List ℕ
  block_payload = part img (b + block_header_length) block_length

-- "In all that is written, by creating too, compression is 0, type is 1, cmpLength equals length, and both checksums are the payload's."
unfoldable pub block_header : ℕ → List ℕ → List ℕ
block_header size payload =
    layout (raw DBLK ∷ num 2 1 ∷ num 2 0 ∷ num 4 size ∷ num 4 (length payload) ∷ num 4 (length payload)
    ∷ num 8 (crc_of payload) ∷ num 8 (crc_of payload) ∷ [])

unfoldable pub block_bytes : ℕ → List ℕ → List ℕ
block_bytes size payload = block_header size payload ++ payload

-- ---- Table, 49: 'DDT*' at 0; type 4 (2); compression 6 (2); shift 8 (1); entries 9 (8); cmpLength 17 (8); length 25 (8);
-- cmpCrc64 33 (8); crc64 41 (8). The one kind that is written.
abbrev pub table_header_length : ℕ
table_header_length = 49

-- "A table entry is 8 bytes"
abbrev pub table_entry_length : ℕ
table_entry_length = 8

-- 11/13, the second kind, 82: 'DDT2' at 0; type 4 (2); compression 6 (2); levels 8 (1); tableLevel 9 (1); previousLevel 10 (8); negative 18 (2);
-- blocks 20 (8); overflow 28 (2); "start (8), blockAlignmentShift, dataShift, tableShift and sizeType (1 each)": 30, 38, 39, 40, 41; "then
-- entries to crc64 as in 'DDT*'": entries 42 (8); cmpLength 50 (8); length 58 (8); cmpCrc64 66 (8); crc64 74 (8). "4-byte entries"
abbrev pub table_header_length_of : TableKind → ℕ
table_header_length_of First = table_header_length
table_header_length_of Second = 82

abbrev pub entry_width : TableKind → ℕ
entry_width First = table_entry_length
entry_width Second = 4

-- where entries, and behind it cmpLength, length, cmpCrc64 and crc64 stand in the header
abbrev pub entries_at : TableKind → ℕ
entries_at First = 9
entries_at Second = 42

-- where shift, of the second kind dataShift, stands
abbrev pub shift_at : TableKind → ℕ
shift_at First = 8
shift_at Second = 39

module _ (img : List ℕ) (t : ℕ) where
  abbrev pub table_data_type : ℕ
  table_data_type = field img (t + 4) 2

  abbrev pub table_compression : ℕ
  table_compression = field img (t + 6) 2

  -- the second kind alone
  abbrev pub table_levels : ℕ
  table_levels = field img (t + 8) 1

  abbrev pub table_blocks : ℕ
  table_blocks = field img (t + 20) 8

  abbrev pub table_overflow : ℕ
  table_overflow = field img (t + 28) 2

  abbrev pub table_size_type : ℕ
  table_size_type = field img (t + 41) 1

module _ (img : List ℕ) (k : TableKind) (t : ℕ) where
  abbrev pub table_shift : ℕ
  table_shift = field img (t + shift_at k) 1

  abbrev pub table_count : ℕ
  table_count = field img (t + entries_at k) 8

  abbrev pub table_cmp_length : ℕ
  table_cmp_length = field img (t + (entries_at k + 8)) 8

  abbrev pub table_length : ℕ
  table_length = field img (t + (entries_at k + 16)) 8

  abbrev pub table_cmp_crc64 : ℕ
  table_cmp_crc64 = field img (t + (entries_at k + 24)) 8

  abbrev pub table_crc64 : ℕ
  table_crc64 = field img (t + (entries_at k + 32)) 8

  abbrev pub table_payload : List ℕ
  table_payload = part img (t + table_header_length_of k) table_length

-- "the alignment and `negative` of its table, 0 for the old one"
unfoldable pub table_alignment : List ℕ → TableKind → ℕ → ℕ
table_alignment img First t = 0
table_alignment img Second t = field img (t + 38) 1

unfoldable pub table_negative : List ℕ → TableKind → ℕ → ℕ
table_negative img First t = 0
table_negative img Second t = field img (t + 18) 2

-- of `count` entries, which are the payload
unfoldable pub table_header : ℕ → ℕ → List ℕ → List ℕ
table_header shift count payload =
    layout (raw DDT* ∷ num 2 1 ∷ num 2 0 ∷ num 1 shift ∷ num 8 count ∷ num 8 (length payload) ∷ num 8 (length payload)
    ∷ num 8 (crc_of payload) ∷ num 8 (crc_of payload) ∷ [])

unfoldable pub table_bytes : ℕ → ℕ → List ℕ → List ℕ
table_bytes shift count payload = table_header shift count payload ++ payload

-- ---- What a table entry means. The pointer of an entry. 11/13: "upper four bits are status, the other 28 the pointer"
unfoldable pub entry_status : ℕ → ℕ
entry_status entry = entry / 2 ^ 28

unfoldable pub entry_pointer : TableKind → ℕ → ℕ
entry_pointer First entry = entry
entry_pointer Second entry = entry % 2 ^ 28

-- What both kinds share. An entry that is not written (Reading) has none; otherwise "byte offset = entry / 2^shift, whole part, and item number =
-- the remainder"; 11/13: "pointer / 2^dataShift, whole part, times 2^blockAlignmentShift; item number = the remainder"
unfoldable pub decode : ℕ → ℕ → ℕ → Pointer
decode shift alignment pointer = record { block = record { 0 = pointer / 2 ^ shift * 2 ^ alignment }; item = record { 0 = pointer % 2 ^ shift } }

-- the entry of a pointer whose item number is below 2^shift, as it is written: of the first kind
unfoldable pub encode : ℕ → Pointer → ℕ
encode shift p = p.block.0 * 2 ^ shift + p.item.0
