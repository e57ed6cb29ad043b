-- "A small disc, worked out": P1 to P12, with the numbers of 2/13, as one table of tests. proofs/WorkedDisc proves that all hold.
use Rattle.std.specs.Prelude.{Bool, false, List, [], ◌∷◌, ◌++◌, map, ℕ, length, take, replicate, pos, Ok, Err}
use Rattle.crc64.specs.Crc.{crc_of}
use Rattle.fields.specs.Bytes.{part, field, to_le, overwrite, equal}
use Rattle.format.specs.declared.Place.{Place}
use Rattle.format.specs.declared.Placed.{Placed}
use Rattle.format.specs.Tests.{same, ◌and◌}
use Rattle.format.specs.Refusals.{Answer}
use Rattle.format.specs.Layouts.{ascii, DBLK, DDT*, index_offset, header_bytes, user_data_entry, index_bytes, block_bytes, table_bytes, decode}
use Rattle.format.specs.Opening.{opening, opened}
use Rattle.format.specs.Reading.{table_entry, read, locate}
use Rattle.format.specs.Creating.{create}
use Rattle.format.specs.Committing.{shift_for, commit}
use Rattle.format.specs.RollingBack.{rollback}
use Rattle.format.specs.Examples.{p1_header}

-- accepted, with this `used` and this index offset
unfoldable pub leaves : ℕ → ℕ → Answer Placed → Bool
leaves used index (Err r) = false
leaves used index (Ok p) = same p.used used and same p.index.0 index

-- refused with this number at this place
unfoldable pub refused_with : {A : Type 0} → ℕ → ℕ → Answer A → Bool
refused_with n place (Err r) = same r.number n and same r.place.0 place
refused_with n place (Ok a) = false

-- accepted with these bytes
unfoldable pub gives : List ℕ → Answer (List ℕ) → Bool
gives bytes (Err r) = false
gives bytes (Ok l) = equal l bytes

-- accepted with this place and size
unfoldable pub lies_at : ℕ → ℕ → Answer Place → Bool
lies_at start size (Err r) = false
lies_at start size (Ok p) = same p.start.0 start and same p.size size

-- the image's table has this place, this shift and these three entries
unfoldable pub has_table : List ℕ → ℕ → ℕ → List ℕ → Bool
has_table img place shift es =
    let t = opened img (index_offset img) in
    same t.table place and same t.shift shift and same t.count 3
    and equal (table_entry img t 0 ∷ table_entry img t 1 ∷ table_entry img t 2 ∷ []) es

abbrev pub AAAA : List ℕ
AAAA = ascii "AAAA"

abbrev pub BBBB : List ℕ
BBBB = ascii "BBBB"

abbrev three_entries : ℕ → ℕ → ℕ → List ℕ
three_entries a b c = to_le 8 a ++ (to_le 8 b ++ to_le 8 c)

-- P3's bytes by 01's own table, which 2/13 does not keep: the header has 72 bytes, the name in it 32
unfoldable pub short_p3 : List ℕ
short_p3 =
    header_bytes (replicate 32 7) 1 2 3 423 4 7
    ++ (table_bytes 0 3 (three_entries 0 0 0) ++ (index_bytes (user_data_entry DDT* 72 ∷ [])
    ++ (block_bytes 4 (AAAA ++ BBBB)
    ++ (table_bytes 1 3 (three_entries 362 0 363) ++ (index_bytes (user_data_entry DDT* 225 ∷ user_data_entry DBLK 181 ∷ [])
    ++ (table_bytes 1 3 (three_entries 362 362 363) ++ index_bytes (user_data_entry DDT* 350 ∷ user_data_entry DBLK 181 ∷ [])))))))

unfoldable pub worked_disc : List Bool
worked_disc =
    let p1 = create (replicate 700 238) 3 (replicate 64 7) 1 2 3 4 5 in
    let b1 = p1.buffer in
    let i1 = take 213 b1 in
    let p2 = commit b1 213 (pos 0 ∷ pos 2 ∷ []) 4 (AAAA ++ BBBB) 6 in
    let b2 = p2.buffer in
    let i2 = take 382 b2 in
    let p3 = commit b2 382 (pos 1 ∷ []) 4 AAAA 7 in
    let b3 = p3.buffer in
    let i3 = take 507 b3 in
    let p4 = rollback b3 507 330 8 in
    let b4 = p4.buffer in
    let i4 = take 507 b4 in
    let p5 = rollback b4 507 455 9 in
    let i5 = take 507 p5.buffer in
    let p6 = commit b4 507 (pos 1 ∷ []) 4 BBBB 10 in
    let i6 = take 632 p6.buffer in
    let p7 = commit b1 213 [] 4 [] 11 in
    let i7 = take 322 p7.buffer in
    -- P1: "Create, E = 3": table 104, index 177, used 213
    leaves 213 177 p1.result ∷ has_table i1 104 0 (0 ∷ 0 ∷ 0 ∷ [])
    -- P2: "Commit addresses 0, 2, size 4, "AAAABBBB"": block 213, table 257, index 330, used 382, shift 1, entries 426, 0, 427
    ∷ leaves 382 330 p2.result ∷ has_table i2 257 1 (426 ∷ 0 ∷ 427 ∷ []) ∷ equal (part i2 213 4) DBLK
    -- P3: "Then commit address 1 "AAAA": no block", table 382, index 455, used 507, entries 426, 426, 427. And the listing's lines
    ∷ leaves 507 455 p3.result ∷ has_table i3 382 1 (426 ∷ 426 ∷ 427 ∷ [])
    ∷ lies_at 249 4 (locate i3 (pos 0)) ∷ lies_at 249 4 (locate i3 (pos 1)) ∷ lies_at 253 4 (locate i3 (pos 2))
    -- P4: roll back to 330: "address 1 is 21", which has no place; used stays 507. P5: back to 455: "address 1 reads "AAAA"", at 249
    ∷ leaves 507 330 p4.result ∷ refused_with 21 0 (read i4 (pos 1))
    ∷ leaves 507 455 p5.result ∷ gives AAAA (read i5 (pos 1)) ∷ lies_at 249 4 (locate i5 (pos 1))
    -- P6: "After P4, commit 1 "BBBB"": table 507, index 580, used 632, entries 426, 427, 427
    ∷ leaves 632 580 p6.result ∷ has_table i6 507 1 (426 ∷ 427 ∷ 427 ∷ [])
    -- P7: "Empty commit after P1": table 213, index 286, used 322
    ∷ leaves 322 286 p7.result ∷ has_table i7 213 0 (0 ∷ 0 ∷ 0 ∷ [])
    -- P8: "Largest item 0, 1, 2, 3, 4: shift 0, 1, 2, 2, 3."
    ∷ equal (map shift_for (0 ∷ 1 ∷ 2 ∷ 3 ∷ 4 ∷ [])) (0 ∷ 1 ∷ 2 ∷ 2 ∷ 3 ∷ [])
    -- P9: in P1's bytes indexOffset, the field at 80, 4,294,967,295 "gives 4 (a 32-bit sum gives 19)"; 194 and 103 give 4; 193 gives 5.
    -- Each at that offset
    ∷ refused_with 4 4294967295 (opening (overwrite i1 80 (to_le 8 4294967295)))
    ∷ refused_with 4 194 (opening (overwrite i1 80 (to_le 8 194))) ∷ refused_with 4 103 (opening (overwrite i1 80 (to_le 8 103)))
    ∷ refused_with 5 193 (opening (overwrite i1 80 (to_le 8 193)))
    -- P10: "In P2's block both lengths", the fields at 225 and 229, "4,294,967,292: 23 for address 0 (a 32-bit sum gives" 245). At the block
    ∷ refused_with 23 213 (read (overwrite i2 225 (to_le 4 4294967292 ++ to_le 4 4294967292)) (pos 0))
    -- P11: "Checksum of no bytes is 0." P12: "0x8003 with shift 5 is offset 1024, item 3."
    ∷ same (crc_of []) 0 ∷ same (decode 5 0 0x8003).block.0 1024 ∷ same (decode 5 0 0x8003).item.0 3
    -- beyond the P cases: the lowest offset passes check 4 (a table is there, no index); the short header is not kept
    ∷ refused_with 5 104 (opening (overwrite i1 80 (to_le 8 104))) ∷ same (length short_p3) 475 ∷ refused_with 3 0 (opening short_p3)
    -- and the header as creating (times 4 and 5), a commit (6) and a rollback (8) leave it
    ∷ equal (take 104 b1) p1_header ∷ same (field i2 88 8) 4 ∷ same (field i2 96 8) 6 ∷ same (field i4 88 8) 4 ∷ same (field i4 96 8) 8
    ∷ []
