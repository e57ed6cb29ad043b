-- Opening, with o for the index's offset: a rollback checks at the offset that it is handed, all else at the header's.
-- "All sums are whole numbers. Checks in this order", with 2/13's 104 where 01 says 72.
use Rattle.std.specs.Prelude.{Bool, true, false, not, List, [], ◌∷◌, ℕ, zero, suc, ◌+◌, ◌*◌, length, get_or, pos, neg_ℤ, Ok, Err}
use Rattle.crc64.specs.Crc.{crc_of}
use Rattle.fields.specs.Bytes.{part, field, to_le, equal}
use Rattle.format.specs.declared.AddressRange.{AddressRange}
use Rattle.format.specs.declared.Entry.{Entry}
use Rattle.format.specs.declared.TableKind.{TableKind}
use Rattle.format.specs.declared.TableKind.TheVariants.{First, Second}
use Rattle.format.specs.Tests.{same, differs, below, ◌or◌, ◌and◌, choose}
use Rattle.format.specs.Refusals.{refusal, row, ◌then◌, Answer, answer, Verdict}
use Rattle.format.specs.Layouts.{AARUFRMT, DICMFRMT, IDX2, DDT*, DDT2, header_length, image_major_at, index_offset, index_header_length, entry_count, index_crc64, entry_length, entry_at, entries, entries_part, table_header_length_of, entry_width, table_data_type, table_compression, table_shift, table_count, table_cmp_length, table_length, table_cmp_crc64, table_crc64, table_payload, table_levels, table_blocks, table_overflow, table_size_type, table_alignment, table_negative}

-- 6/13: "test each block's identifier against its printed letters: the test says yes exactly if the bytes are those letters in that order."
-- the identifier at a place is not this one
unfoldable pub lacks : List ℕ → ℕ → List ℕ → Bool
lacks img at letters = not (equal (part img at (length letters)) letters)

-- 1. "`used` below 104: 1. Identifier neither 'AARUFRMT' nor 'DICMFRMT': 2. Image major not 2: 3 (minor is not looked at)."
unfoldable pub header_verdict : List ℕ → Verdict
header_verdict img =
    row (below (length img) header_length) (refusal 1 0)
    then row (lacks img 0 AARUFRMT and lacks img 0 DICMFRMT) (refusal 2 0)
    then row (differs (field img image_major_at 1) 2) (refusal 3 0)

-- 2. "indexOffset below 104, or its header past the end: 4. Not 'IDX2': 5. Entries past the end: 4. Checksum: 6."
unfoldable pub index_verdict : List ℕ → ℕ → Verdict
index_verdict img o =
    row (below o header_length or below (length img) (o + index_header_length)) (refusal 4 o)
    then row (lacks img o IDX2) (refusal 5 o)
    then row (below (length img) (o + index_header_length + entry_length * entry_count img o)) (refusal 4 o)
    then row (differs (crc_of (entries_part img o)) (index_crc64 img o)) (refusal 6 o)

-- 3. "For each index entry in turn: offset below 104 or offset + 4 past the end: 7; the four bytes there differ from blockType: 8."
-- The entry stands at place p.
unfoldable pub entry_verdict : List ℕ → ℕ → Verdict
entry_verdict img p =
    let e = entry_at img p in
    row (below e.offset.0 header_length or below (length img) (e.offset.0 + 4)) (refusal 7 p)
    then row (differs (field img e.offset.0 4) e.blockType) (refusal 8 p)

-- the k entries from place p on
unfoldable pub entries_verdict : List ℕ → ℕ → ℕ → Verdict
entries_verdict img zero p = Ok tt
entries_verdict img (suc k) p = entry_verdict img p then entries_verdict img k (p + entry_length)

-- 4. "Entries with blockType 'DDT*' and dataType 1: none is 9, more than one is 10."
-- an entry for this kind of block: the four bytes of its blockType are these letters
unfoldable pub is_type : List ℕ → Entry → Bool
is_type letters e = equal (to_le 4 e.blockType) letters

-- an entry for this kind of block, of user data (dataType 1)
unfoldable pub is_user_data : List ℕ → Entry → Bool
is_user_data letters e = is_type letters e and same e.dataType 1

-- the offsets of the entries that a test says yes to, in order
unfoldable pub offsets_with : (Entry → Bool) → List Entry → List ℕ
offsets_with f [] = []
offsets_with f (e ∷ es) = choose (f e) (e.offset.0 ∷ offsets_with f es) (offsets_with f es)

-- of those for this kind of block, of user data
abbrev pub offsets_of : List ℕ → List Entry → List ℕ
offsets_of letters es = offsets_with (is_user_data letters) es

-- 11/13: "in opening's step 4 both kinds count, so one of each is 10"
unfoldable pub is_table : Entry → Bool
is_table e = is_user_data DDT* e or is_user_data DDT2 e

-- where the index at o names these tables
unfoldable pub one_of : ℕ → List ℕ → Verdict
one_of o [] = Err (refusal 9 o)
one_of o (t ∷ []) = Ok tt
one_of o (t ∷ u ∷ ts) = Err (refusal 10 o)

unfoldable pub one_verdict : List ℕ → ℕ → Verdict
one_verdict img o = one_of o (offsets_with is_table (entries img o))

-- the table's place, where the index names one table
unfoldable pub table_at : List ℕ → ℕ → ℕ
table_at img o = get_or (offsets_with is_table (entries img o)) 0 0

-- its kind, by its identifier, which is its index entry's blockType (8)
unfoldable pub kind_by : Bool → TableKind
kind_by true = First
kind_by false = Second

unfoldable pub kind_at : List ℕ → ℕ → TableKind
kind_at img t = kind_by (lacks img t DDT2)

-- 5. "Table header past the end: 11. Compression not 0: 13. Type not 1, shift over 32, length not 8 x entries, or cmpLength not
-- length: 12. Payload past the end: 11. Either checksum wrong: 14."
-- 11/13, of the second kind: "70, levels not 1; 71, sizeType not 0; 72, `negative` and `overflow` together exceed blocks; in that order after 13"
unfoldable pub extent_verdict : List ℕ → TableKind → ℕ → Verdict
extent_verdict img First t = Ok tt
extent_verdict img Second t =
    row (differs (table_levels img t) 1) (refusal 70 0)
    then row (differs (table_size_type img t) 0) (refusal 71 0)
    then row (below (table_blocks img t) (table_negative img Second t + table_overflow img t)) (refusal 72 0)

-- "12 then asks for 4 x entries and both shifts up to 32"
unfoldable pub table_malformed : List ℕ → TableKind → ℕ → Bool
table_malformed img k t =
    differs (table_data_type img t) 1 or below 32 (table_shift img k t) or below 32 (table_alignment img k t)
    or differs (table_length img k t) (entry_width k * table_count img k t) or differs (table_cmp_length img k t) (table_length img k t)

-- either of two stored checksums is not this one
unfoldable pub sums_differ : ℕ → ℕ → ℕ → Bool
sums_differ sum stored1 stored2 = differs sum stored1 or differs sum stored2

unfoldable pub payload_verdict : List ℕ → TableKind → ℕ → Verdict
payload_verdict img k t =
    row (below (length img) (t + table_header_length_of k + table_length img k t)) (refusal 11 t)
    then row (sums_differ (crc_of (table_payload img k t)) (table_cmp_crc64 img k t) (table_crc64 img k t)) (refusal 14 t)

unfoldable pub table_verdict : List ℕ → TableKind → ℕ → Verdict
table_verdict img k t =
    row (below (length img) (t + table_header_length_of k)) (refusal 11 t)
    then row (differs (table_compression img t) 0) (refusal 13 t)
    then extent_verdict img k t
    then row (table_malformed img k t) (refusal 12 t)
    then payload_verdict img k t

-- all of opening's checks
unfoldable pub open_verdict : List ℕ → ℕ → Verdict
open_verdict img o =
    header_verdict img
    then index_verdict img o
    then entries_verdict img (entry_count img o) (o + index_header_length)
    then one_verdict img o
    then table_verdict img (kind_at img (table_at img o)) (table_at img o)

-- "An opened image travels as one record holding the lent bytes and the table's place (that of its header), count and shift."
-- 11/13: "The opened record carries the kind, the alignment and `negative` of its table, 0 for the old one"
-- This is what opening finds, beside the bytes; it means something only where opening accepts.
pub record Opened : Type 0 where
  pub kind : TableKind
  pub table : ℕ
  pub count : ℕ
  pub shift : ℕ
  pub alignment : ℕ
  pub negative : ℕ

unfoldable pub opened_as : List ℕ → TableKind → ℕ → Opened
opened_as img k t =
    record {
      kind = k;
      table = t;
      count = table_count img k t;
      shift = table_shift img k t;
      alignment = table_alignment img k t;
      negative = table_negative img k t;
    }

-- whose table is at t
abbrev pub opened_at : List ℕ → ℕ → Opened
opened_at img t = opened_as img (kind_at img t) t

-- with o for the index's offset
unfoldable pub opened : List ℕ → ℕ → Opened
opened img o = opened_at img (table_at img o)

unfoldable pub opening : List ℕ → Answer Opened
opening img = answer (open_verdict img (index_offset img)) (opened img (index_offset img))

-- how many sectors an image has, and its lowest address: "the lowest is minus `negative`" (11/13)
unfoldable pub range_of : Opened → AddressRange
range_of t = record { count = t.count; lowest = record { 0 = neg_ℤ (pos t.negative) } }

unfoldable pub sector_count : List ℕ → Answer AddressRange
sector_count img = answer (open_verdict img (index_offset img)) (range_of (opened img (index_offset img)))
