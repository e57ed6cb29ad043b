-- Reading a sector. "A read takes bytes, whose length is its `used`, and an address, opens, then checks" what follows. "Sectors of one
-- disc may differ in size." "Reading any lent slice has no length limit."
use Rattle.std.specs.Prelude.{Bool, false, not, List, [], ◌∷◌, ℕ, ◌+◌, ◌*◌, ◌/◌, ◌%◌, length, ℤ, pos, nat_abs, ◌+ℤ◌}
use Rattle.crc64.specs.Crc.{crc_of}
use Rattle.fields.specs.Bytes.{part, field}
use Rattle.format.specs.declared.Entry.{Entry}
use Rattle.format.specs.declared.Pointer.{Pointer}
use Rattle.format.specs.declared.Place.{Place}
use Rattle.format.specs.declared.TableKind.{TableKind}
use Rattle.format.specs.declared.TableKind.TheVariants.{First, Second}
use Rattle.format.specs.Tests.{same, differs, below, at_least, less_than, ◌or◌}
use Rattle.format.specs.Refusals.{refusal, row, ◌then◌, Answer, answer, Verdict}
use Rattle.format.specs.Layouts.{DBLK, index_offset, entries, block_header_length, block_data_type, block_compression, sector_size, block_cmp_length, block_length, block_cmp_crc64, block_crc64, block_payload, table_header_length_of, entry_width, entry_status, entry_pointer, decode}
use Rattle.format.specs.Opening.{Opened, opened, open_verdict, offsets_of, sums_differ}

-- ---- an address. 11/13: "Addresses become signed: the lowest is minus `negative`, and the entry number is address + `negative`; 20 now applies,
-- for both kinds, where that number is below 0 or not below entries."
unfoldable pub displaced : Opened → ℤ → ℤ
displaced t a = a +ℤ pos t.negative

unfoldable pub outside : Opened → ℤ → Bool
outside t a = less_than (displaced t a) (pos 0) or not (less_than (displaced t a) (pos t.count))

-- its entry number, where it is not outside
unfoldable pub entry_number : Opened → ℤ → ℕ
entry_number t a = nat_abs (displaced t a)

-- ---- table entry n: where it stands, and the number there
abbrev pub table_entry_at : Opened → ℕ → ℕ
table_entry_at t n = t.table + table_header_length_of t.kind + entry_width t.kind * n

unfoldable pub table_entry : List ℕ → Opened → ℕ → ℕ
table_entry img t n = field img (table_entry_at t n) (entry_width t.kind)

-- not written (01's own term): "Entry 0x0 means not written." 11/13: "status 0 is not dumped", "A status of not dumped reads as 21"
unfoldable pub unwritten : TableKind → ℕ → Bool
unwritten First entry = same entry 0
unwritten Second entry = same (entry_status entry) 0

unfoldable pub not_written : List ℕ → Opened → ℕ → Bool
not_written img t n = unwritten t.kind (table_entry img t n)

-- 11/13: "73, any other status, after 21"; "1 dumped"
unfoldable pub unknown : TableKind → ℕ → Bool
unknown First entry = false
unknown Second entry = differs (entry_status entry) 1

unfoldable pub unknown_status : List ℕ → Opened → ℕ → Bool
unknown_status img t n = unknown t.kind (table_entry img t n)

-- what table entry n encodes
unfoldable pub pointer_at : List ℕ → Opened → ℕ → Pointer
pointer_at img t n = decode t.shift t.alignment (entry_pointer t.kind (table_entry img t n))

-- x is in the list
unfoldable pub has : ℕ → List ℕ → Bool
has x [] = false
has x (y ∷ ys) = same y x or has x ys

-- "block header past the end: 23; compression not 0: 24; type not 1, sectorSize 0, cmpLength not length, or length no multiple of
-- sectorSize: 25; payload past the end: 23"
unfoldable pub block_malformed : List ℕ → ℕ → Bool
block_malformed img b =
    differs (block_data_type img b) 1 or same (sector_size img b) 0
    or differs (block_cmp_length img b) (block_length img b) or differs (block_length img b % sector_size img b) 0

unfoldable pub block_verdict : List ℕ → ℕ → Verdict
block_verdict img b =
    row (below (length img) (b + block_header_length)) (refusal 23 b)
    then row (differs (block_compression img b) 0) (refusal 24 b)
    then row (block_malformed img b) (refusal 25 b)
    then row (below (length img) (b + block_header_length + block_length img b)) (refusal 23 b)

-- "item number not below length / sectorSize: 26; either checksum wrong: 27"
unfoldable pub item_verdict : List ℕ → Pointer → Verdict
item_verdict img p =
    let b = p.block.0 in
    block_verdict img b
    then row (at_least p.item.0 (block_length img b / sector_size img b)) (refusal 26 b)
    then row (sums_differ (crc_of (block_payload img b)) (block_cmp_crc64 img b) (block_crc64 img b)) (refusal 27 b)

-- what a pointer, whose table entry stands at place `at`, points to: "byte offset named by no index entry with blockType 'DBLK' and
-- dataType 1: 22", where the index has the entries es, and the item's checks
unfoldable pub pointer_verdict : List ℕ → List Entry → ℕ → Pointer → Verdict
pointer_verdict img es at p = row (not (has p.block.0 (offsets_of DBLK es))) (refusal 22 at) then item_verdict img p

-- the sector of table entry n of an opened image: "not written: 21", 73, and its pointer's checks
unfoldable pub sector_verdict : List ℕ → List Entry → Opened → ℕ → Verdict
sector_verdict img es t n =
    row (not_written img t n) (refusal 21 0)
    then row (unknown_status img t n) (refusal 73 0)
    then pointer_verdict img es (table_entry_at t n) (pointer_at img t n)

-- where an item lies
unfoldable pub place_of : List ℕ → Pointer → Place
place_of img p =
    let size = sector_size img p.block.0 in
    record { start = record { 0 = p.block.0 + block_header_length + p.item.0 * size }; size = size }

-- "The answer is the sectorSize bytes of that item, a part of the lent image."
unfoldable pub item_bytes : List ℕ → Pointer → List ℕ
item_bytes img p = part img (place_of img p).start.0 (place_of img p).size

-- the sector of an address: "address not below entries: 20", and its table entry's checks
unfoldable pub address_verdict : List ℕ → List Entry → Opened → ℤ → Verdict
address_verdict img es t a = row (outside t a) (refusal 20 0) then sector_verdict img es t (entry_number t a)

-- all of a read's checks, with o for the index's offset
unfoldable pub read_verdict : List ℕ → ℕ → ℤ → Verdict
read_verdict img o a = open_verdict img o then address_verdict img (entries img o) (opened img o) a

-- what the table entry of an address encodes
unfoldable pub pointer_of : List ℕ → Opened → ℤ → Pointer
pointer_of img t a = pointer_at img t (entry_number t a)

-- a read with o for the index's offset
unfoldable pub read_at : List ℕ → ℕ → ℤ → Answer (List ℕ)
read_at img o a = answer (read_verdict img o a) (item_bytes img (pointer_of img (opened img o) a))

-- a read
unfoldable pub read : List ℕ → ℤ → Answer (List ℕ)
read img a = read_at img (index_offset img) a

-- the same sector by its place
unfoldable pub locate : List ℕ → ℤ → Answer Place
locate img a = answer (read_verdict img (index_offset img) a) (place_of img (pointer_of img (opened img (index_offset img)) a))
