-- 11/13: a disc with a table of the second kind, worked out by hand, as a table of tests about the definitions. proofs/SecondDisc proves that all hold.
use Rattle.std.specs.Prelude.{Bool, false, List, [], ◌∷◌, ◌++◌, ℕ, suc, ◌+◌, ◌/◌, length, replicate, ℤ, pos, negsuc, Ok, Err}
use Rattle.crc64.specs.Crc.{crc_of}
use Rattle.fields.specs.Bytes.{to_le, overwrite}
use Rattle.fields.specs.Layout.{num, raw, layout}
use Rattle.format.specs.declared.AddressRange.{AddressRange}
use Rattle.format.specs.Tests.{same, ◌and◌}
use Rattle.format.specs.Refusals.{Answer}
use Rattle.format.specs.Layouts.{DBLK, DDT*, DDT2, header_bytes, user_data_entry, index_bytes, block_bytes}
use Rattle.format.specs.Opening.{Opened, opening, sector_count}
use Rattle.format.specs.Reading.{read, locate}
use Rattle.format.specs.Committing.{commit}
use Rattle.format.specs.RollingBack.{rollback}
use Rattle.worked_disc.specs.WorkedDisc.{refused_with, gives, lies_at, AAAA, BBBB}

unfoldable pub is_minus : ℕ → ℤ → Bool
is_minus n (pos m) = same n 0 and same m 0
is_minus n (negsuc m) = same n (suc m)

-- accepted with so many addresses, the lowest of them minus `low`
unfoldable pub ranges : ℕ → ℕ → Answer AddressRange → Bool
ranges count low (Err r) = false
ranges count low (Ok s) = same s.count count and is_minus low s.lowest.0

-- A block of two items, "AAAA" and "BBBB", at 104; the table at 148, the index at 250; used 302. Its lowest address is -1, its alignment 2, its dataShift 1: the
-- pointer 26 x 2 + i, 0x34 + i, is item i of the block at 26 x 4.
-- Address -1 is item 1; 0 has status 0, "not dumped", whatever its pointer; 1 is item 0; 2 has status 2; 3 is item 1 of a block at 27 x 4, which no entry names.
abbrev pub second_entries : List ℕ
second_entries = to_le 4 0x10000035 ++ (to_le 4 0x00000034 ++ (to_le 4 0x10000034 ++ (to_le 4 0x20000034 ++ to_le 4 0x10000037)))

-- the header of a table of these entries, field by field, with these levels, negative, blocks, overflow, alignment, dataShift and sizeType; what is not looked at
-- is 9
unfoldable pub second_header : List ℕ → ℕ → ℕ → ℕ → ℕ → ℕ → ℕ → ℕ → List ℕ
second_header es levels negative blocks overflow alignment shift size_type =
    layout (raw DDT2 ∷ num 2 1 ∷ num 2 0 ∷ num 1 levels ∷ num 1 9 ∷ num 8 9 ∷ num 2 negative ∷ num 8 blocks ∷ num 2 overflow ∷ num 8 9
    ∷ num 1 alignment ∷ num 1 shift ∷ num 1 9 ∷ num 1 size_type ∷ num 8 (length es / 4) ∷ num 8 (length es) ∷ num 8 (length es) ∷ num 8 (crc_of es) ∷ num 8 (crc_of es) ∷ [])

unfoldable pub second_image : List ℕ → List ℕ → List ℕ → List ℕ
second_image header es index = header_bytes (replicate 64 7) 1 2 3 (230 + length es) 4 5 ++ (block_bytes 4 (AAAA ++ BBBB) ++ (header ++ (es ++ index)))

-- opening an image with such a header
unfoldable pub opened_with : ℕ → ℕ → ℕ → ℕ → ℕ → ℕ → ℕ → List ℕ → Answer Opened
opened_with levels negative blocks overflow alignment shift size_type index =
    opening (second_image (second_header second_entries levels negative blocks overflow alignment shift size_type) second_entries index)

unfoldable pub second_disc : List Bool
second_disc =
    let index = index_bytes (user_data_entry DBLK 104 ∷ user_data_entry DDT2 148 ∷ []) in
    let good = second_header second_entries 1 1 5 1 2 1 0 in
    let img = second_image good second_entries index in
    same (length good) 82 ∷ same (length img) 302
    -- five addresses from -1 on
    ∷ ranges 5 1 (sector_count img) ∷ gives BBBB (read img (negsuc 0)) ∷ lies_at 144 4 (locate img (negsuc 0)) ∷ gives AAAA (read img (pos 1))
    -- 20 one below the lowest address, and one past the last; 21; 73; 22 at the table entry, whose width is 4
    ∷ refused_with 20 0 (read img (negsuc 1)) ∷ refused_with 20 0 (read img (pos 4)) ∷ refused_with 21 0 (read img (pos 0))
    ∷ refused_with 73 0 (read img (pos 2)) ∷ refused_with 22 246 (read img (pos 3))
    -- 74 of a commit and of a rollback; the buffer is the image
    ∷ refused_with 74 0 (commit img 302 [] 4 [] 6).result ∷ refused_with 74 0 (rollback img 302 250 6).result
    -- 70, 71, 72 in this order, and before 12; negative + overflow = blocks is not 72; 12 at the table for each shift over 32
    ∷ refused_with 70 0 (opened_with 2 1 1 1 33 1 1 index) ∷ refused_with 71 0 (opened_with 1 1 1 1 33 1 1 index)
    ∷ refused_with 72 0 (opened_with 1 1 1 1 33 1 0 index) ∷ refused_with 12 148 (opened_with 1 1 2 1 33 1 0 index)
    ∷ refused_with 12 148 (opened_with 1 1 2 1 2 33 0 index)
    -- one table of each kind is 10, at the index
    ∷ refused_with 10 250 (opening (overwrite (second_image good second_entries (index_bytes (user_data_entry DDT* 104 ∷ user_data_entry DDT2 148 ∷ []))) 104 DDT*))
    ∷ []
