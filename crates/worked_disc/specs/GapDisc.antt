-- 9/13: discs with gaps, of both kinds of table, exported by both rules; worked out by hand, as a table of tests about the definitions. proofs/GapDisc proves that
-- all hold.
use Rattle.std.specs.Prelude.{Bool, false, List, [], ◌∷◌, ◌++◌, ℕ, ◌+◌, ◌*◌, length, replicate, Ok, Err}
use Rattle.fields.specs.Bytes.{to_le, overwrite, equal}
use Rattle.format.specs.declared.Flat.{Flat}
use Rattle.format.specs.Tests.{same, ◌and◌}
use Rattle.format.specs.Refusals.{Answer}
use Rattle.format.specs.Layouts.{DBLK, DDT*, DDT2, header_bytes, user_data_entry, index_bytes, block_bytes, table_bytes}
use Rattle.format.specs.Exporting.{export_exact, export}
use Rattle.worked_disc.specs.WorkedDisc.{refused_with, AAAA, BBBB}
use Rattle.worked_disc.specs.SecondDisc.{second_header, second_image}
use Rattle.worked_disc.specs.FlatDisc.{exports}

-- accepted with so many bytes and so many filled
unfoldable pub fills : ℕ → ℕ → Answer Flat → Bool
fills length filled (Err r) = false
fills length filled (Ok n) = same n.length length and same n.filled filled

-- into a buffer of two bytes more than the file: it is this one, and so many are filled; later bytes stay
unfoldable pub exports_as : List ℕ → List ℕ → ℕ → Bool
exports_as img file filled =
    let e = export img (replicate (length file + 2) 238) in
    fills (length file) filled e.result and equal e.buffer (file ++ (238 ∷ 238 ∷ []))

-- A block of two items, "AAAA" and "BBBB", at 104, and one of one item of five bytes at 148; the table at 189, with these entries. Its shift is 1: 208 + i is item i
-- of the first block, 296 the item of the second
unfoldable pub gap_image : List ℕ → ℕ → List ℕ
gap_image es count =
    header_bytes (replicate 64 7) 1 2 3 (238 + 8 * count) 4 5
    ++ (block_bytes 4 (AAAA ++ BBBB) ++ (block_bytes 5 (45 ∷ AAAA)
    ++ (table_bytes 1 count es ++ index_bytes (user_data_entry DBLK 104 ∷ user_data_entry DBLK 148 ∷ user_data_entry DDT* 189 ∷ []))))

abbrev pub three : ℕ → ℕ → ℕ → List ℕ
three a b c = gap_image (to_le 8 a ++ (to_le 8 b ++ to_le 8 c)) 3

-- of the second kind, in SecondDisc's image: address -1 is not dumped, 0 is "BBBB", and 1 has this entry
abbrev pub second_gaps : ℕ → List ℕ
second_gaps last = to_le 4 0x00000034 ++ (to_le 4 0x10000035 ++ to_le 4 last)

unfoldable pub second_three : ℕ → List ℕ
second_three last =
    second_image (second_header (second_gaps last) 1 1 3 1 2 1 0) (second_gaps last) (index_bytes (user_data_entry DBLK 104 ∷ user_data_entry DDT2 148 ∷ []))

abbrev pub zeros : List ℕ
zeros = replicate 4 0

unfoldable pub gap_disc : List Bool
gap_disc =
    let middle = three 208 0 209 in
    let other = three 0 208 296 in
    -- gaps at the front, in the middle and at the end; none
    exports_as (three 0 0 208) (zeros ++ (zeros ++ AAAA)) 2 ∷ exports_as middle (AAAA ++ (zeros ++ BBBB)) 1 ∷ exports_as (three 209 0 0) (BBBB ++ (zeros ++ zeros)) 2
    ∷ exports_as (three 208 209 208) (AAAA ++ (BBBB ++ AAAA)) 0
    -- a buffer that is just long enough, and one byte too short; nothing is written then
    ∷ fills 12 1 (export middle (replicate 12 238)).result ∷ refused_with 41 0 (export middle (replicate 11 238)).result
    ∷ equal (export middle (replicate 11 238)).buffer (replicate 11 238)
    -- behind a gap a later sector of another size than the lowest written one: 40, before 41; a larger one that is the lowest, then a smaller one
    ∷ refused_with 40 0 (export other (replicate 14 238)).result ∷ refused_with 40 0 (export other []).result
    ∷ refused_with 40 0 (export (three 0 296 208) (replicate 15 238)).result ∷ exports_as (three 296 0 296) ((45 ∷ AAAA) ++ (replicate 5 0 ++ (45 ∷ AAAA))) 1
    -- all unwritten: 21; no sectors: no bytes, none filled
    ∷ refused_with 21 0 (export (three 0 0 0) []).result ∷ exports_as (gap_image [] 0) [] 0 ∷ exports 0 (export_exact (gap_image [] 0) []).result
    -- a damaged sector behind a gap: its number and place, not 21
    ∷ refused_with 27 148 (export (overwrite other 185 (46 ∷ [])) []).result ∷ refused_with 22 254 (export (three 0 208 300) []).result
    -- 4/13's rule: a gap is 21, also before a damaged sector, and not behind one
    ∷ refused_with 21 0 (export_exact middle (replicate 14 238)).result ∷ refused_with 21 0 (export_exact (three 0 208 300) []).result
    ∷ refused_with 22 238 (export_exact (three 300 0 208) []).result
    -- the second kind, from address -1 on; another status behind a gap is 73
    ∷ exports_as (second_three 0) (zeros ++ (BBBB ++ zeros)) 2 ∷ exports_as (second_three 0x10000034) (zeros ++ (BBBB ++ AAAA)) 1
    ∷ refused_with 73 0 (export (second_three 0x20000034) []).result
    ∷ []
