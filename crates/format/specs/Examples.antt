-- Each record's header as bytes, the identifiers as bytes and what the tests of them say, what a table entry means, both sides of each bound of a
-- call's arguments, worked out by hand, as a table of tests.
-- proofs/Examples proves that all hold.
use Rattle.format.specs.Refusals.{Verdict}
use Rattle.std.specs.Prelude.{Bool, not, List, [], ◌∷◌, ◌++◌, ℕ, length, replicate, pos, negsuc, Ok, Err}
use Rattle.fields.specs.Bytes.{field, equal}
use Rattle.format.specs.declared.TableKind.TheVariants.{First, Second}
use Rattle.format.specs.Tests.{same}
use Rattle.format.specs.Layouts.{ascii, AARUFRMT, DICMFRMT, IDX2, DBLK, DDT*, DDT2, CKSM, header_length, image_major_at, index_offset_at, last_written_at, header_bytes, entry_bytes, user_data_entry, index_bytes, block_bytes, table_bytes, entry_pointer, decode}
use Rattle.format.specs.Opening.{lacks, is_type, is_table}
use Rattle.format.specs.Reading.{unwritten, unknown}
use Rattle.format.specs.Creating.{create_verdict}
use Rattle.format.specs.Committing.{arguments_verdict}
use Rattle.format.specs.Importing.{import_verdict}

-- P1's: a name of 64 bytes, versions 2.0 and 1.2, mediaType 3, indexOffset 177, times 4 and 5
abbrev pub p1_header : List ℕ
p1_header =
    AARUFRMT ++ (replicate 64 7 ++ (2 ∷ 0 ∷ 1 ∷ 2 ∷ 3 ∷ 0 ∷ 0 ∷ 0 ∷ 177 ∷ 0 ∷ 0 ∷ 0 ∷ 0 ∷ 0 ∷ 0 ∷ 0
    ∷ 4 ∷ 0 ∷ 0 ∷ 0 ∷ 0 ∷ 0 ∷ 0 ∷ 0 ∷ 5 ∷ 0 ∷ 0 ∷ 0 ∷ 0 ∷ 0 ∷ 0 ∷ 0 ∷ []))

-- the verdict refuses with this number; 0 stands for one that passes
unfoldable pub gives : ℕ → Verdict → Bool
gives n (Ok tt) = same n 0
gives n (Err r) = same n r.number

abbrev name : List ℕ
name = replicate 64 7

unfoldable pub examples : List Bool
examples =
    equal (header_bytes name 1 2 3 177 4 5) p1_header
    -- an index of one entry, a block of two sectors of 4 bytes, a table of 3 entries that are not written, with shift 5
    ∷ equal (index_bytes (user_data_entry DDT* 104 ∷ []))
    (IDX2 ++ (1 ∷ 0 ∷ 0 ∷ 0 ∷ 0 ∷ 0 ∷ 0 ∷ 0 ∷ 187 ∷ 99 ∷ 161 ∷ 193 ∷ 21 ∷ 250 ∷ 114 ∷ 241 ∷ []) ++ DDT* ++ (1 ∷ 0 ∷ 0 ∷ 0 ∷ 104 ∷ 0 ∷ 0 ∷ 0 ∷ 0 ∷ 0 ∷ 0 ∷ 0 ∷ []))
    ∷ equal (block_bytes 4 (ascii "AAAABBBB"))
    (DBLK ++ (1 ∷ 0 ∷ 0 ∷ 0 ∷ 4 ∷ 0 ∷ 0 ∷ 0 ∷ 8 ∷ 0 ∷ 0 ∷ 0 ∷ 8 ∷ 0 ∷ 0 ∷ 0
    ∷ 219 ∷ 252 ∷ 1 ∷ 33 ∷ 161 ∷ 102 ∷ 151 ∷ 93 ∷ 219 ∷ 252 ∷ 1 ∷ 33 ∷ 161 ∷ 102 ∷ 151 ∷ 93 ∷ []) ++ ascii "AAAABBBB")
    ∷ equal (table_bytes 5 3 (replicate 24 0))
    (DDT* ++ (1 ∷ 0 ∷ 0 ∷ 0 ∷ 5 ∷ 3 ∷ 0 ∷ 0 ∷ 0 ∷ 0 ∷ 0 ∷ 0 ∷ 0 ∷ 24 ∷ 0 ∷ 0 ∷ 0 ∷ 0 ∷ 0 ∷ 0 ∷ 0 ∷ 24 ∷ 0 ∷ 0 ∷ 0 ∷ 0 ∷ 0 ∷ 0 ∷ 0
    ∷ 108 ∷ 115 ∷ 72 ∷ 67 ∷ 236 ∷ 130 ∷ 150 ∷ 182 ∷ 108 ∷ 115 ∷ 72 ∷ 67 ∷ 236 ∷ 130 ∷ 150 ∷ 182 ∷ []) ++ replicate 24 0)
    -- what has a name of its own is where it stands in the table of fields
    ∷ same (length p1_header) header_length ∷ same (field p1_header image_major_at 1) 2 ∷ same (field p1_header index_offset_at 8) 177
    ∷ same (field p1_header last_written_at 8) 5
    -- the letters' codes
    ∷ equal AARUFRMT (65 ∷ 65 ∷ 82 ∷ 85 ∷ 70 ∷ 82 ∷ 77 ∷ 84 ∷ []) ∷ equal DICMFRMT (68 ∷ 73 ∷ 67 ∷ 77 ∷ 70 ∷ 82 ∷ 77 ∷ 84 ∷ [])
    ∷ equal IDX2 (73 ∷ 68 ∷ 88 ∷ 50 ∷ []) ∷ equal DDT* (68 ∷ 68 ∷ 84 ∷ 42 ∷ []) ∷ equal DBLK (68 ∷ 66 ∷ 76 ∷ 75 ∷ [])
    ∷ equal CKSM (67 ∷ 75 ∷ 83 ∷ 77 ∷ []) ∷ equal DDT2 (68 ∷ 68 ∷ 84 ∷ 50 ∷ [])
    -- those letters in that order, at their place; then two exchanged, one changed, one left out, the place wrong
    ∷ not (lacks (7 ∷ IDX2 ++ (7 ∷ [])) 1 IDX2) ∷ lacks (ascii "IXD2") 0 IDX2 ∷ lacks (ascii "IDX1") 0 IDX2 ∷ lacks (ascii "IDX") 0 IDX2
    ∷ lacks (7 ∷ IDX2) 0 IDX2
    -- the same of an entry's blockType, and the entry as it is written
    ∷ is_type DDT* (user_data_entry DDT* 104) ∷ not (is_type DDT* (user_data_entry (ascii "DD*T") 104))
    ∷ not (is_type DDT* (user_data_entry DDT2 104)) ∷ not (is_type DDT* (user_data_entry (ascii "DDT") 104))
    ∷ equal (entry_bytes (user_data_entry DDT* 104)) (DDT* ++ (1 ∷ 0 ∷ 0 ∷ 0 ∷ 104 ∷ 0 ∷ 0 ∷ 0 ∷ 0 ∷ 0 ∷ 0 ∷ 0 ∷ []))
    -- a table is of either kind
    ∷ is_table (user_data_entry DDT* 104) ∷ is_table (user_data_entry DDT2 104) ∷ not (is_table (user_data_entry DBLK 104))
    -- not written: an entry of 0; of the second kind a status of 0, whatever the pointer. 1 is dumped, 2 and 15 are another status
    ∷ unwritten First 0 ∷ not (unwritten First 1) ∷ not (unknown First 0x20000000)
    ∷ unwritten Second 0 ∷ unwritten Second 0x0FFFFFFF ∷ not (unwritten Second 0x10000000) ∷ not (unwritten Second 0x20000000)
    ∷ not (unknown Second 0x10000000) ∷ not (unknown Second 0x1FFFFFFF) ∷ unknown Second 0x20000000 ∷ unknown Second 0xF0000000
    -- a pointer of 28 ones: all item number, all block, and the block aligned
    ∷ same (entry_pointer Second 0x1FFFFFFF) 0x0FFFFFFF ∷ same (decode 28 32 0x0FFFFFFF).block.0 0 ∷ same (decode 28 32 0x0FFFFFFF).item.0 0x0FFFFFFF
    ∷ same (decode 0 0 0x0FFFFFFF).block.0 0x0FFFFFFF ∷ same (decode 0 32 0x0FFFFFFF).block.0 0x0FFFFFFF00000000 ∷ same (decode 0 32 0x0FFFFFFF).item.0 0
    -- creating: E from 1 to 1,048,576, a name of 64 bytes, 189 + 8E bytes
    ∷ gives 30 (create_verdict [] 0 name) ∷ gives 35 (create_verdict [] 1 name)
    ∷ gives 35 (create_verdict [] 1048576 name) ∷ gives 30 (create_verdict [] 1048577 name)
    ∷ gives 33 (create_verdict [] 1 (replicate 63 7)) ∷ gives 33 (create_verdict [] 1 (replicate 65 7))
    ∷ gives 35 (create_verdict (replicate 196 0) 1 name) ∷ gives 0 (create_verdict (replicate 197 0) 1 name)
    -- committing: `used` up to the buffer's length, a size from 1 to 65,536, up to 65,536 addresses, as many bytes, addresses that rise
    ∷ gives 0 (arguments_verdict (7 ∷ []) 1 [] 1 []) ∷ gives 32 (arguments_verdict (7 ∷ []) 2 [] 1 [])
    ∷ gives 30 (arguments_verdict [] 0 [] 0 []) ∷ gives 0 (arguments_verdict [] 0 [] 65536 []) ∷ gives 30 (arguments_verdict [] 0 [] 65537 [])
    ∷ gives 33 (arguments_verdict [] 0 (replicate 65536 (pos 0)) 1 []) ∷ gives 30 (arguments_verdict [] 0 (replicate 65537 (pos 0)) 1 [])
    ∷ gives 33 (arguments_verdict [] 0 (pos 0 ∷ []) 2 (7 ∷ [])) ∷ gives 0 (arguments_verdict [] 0 (pos 0 ∷ []) 2 (7 ∷ 7 ∷ []))
    ∷ gives 33 (arguments_verdict [] 0 (pos 0 ∷ []) 2 (7 ∷ 7 ∷ 7 ∷ []))
    ∷ gives 0 (arguments_verdict [] 0 (negsuc 0 ∷ pos 0 ∷ []) 1 (7 ∷ 7 ∷ [])) ∷ gives 34 (arguments_verdict [] 0 (pos 0 ∷ pos 0 ∷ []) 1 (7 ∷ 7 ∷ []))
    ∷ gives 34 (arguments_verdict [] 0 (pos 0 ∷ negsuc 0 ∷ []) 1 (7 ∷ 7 ∷ []))
    -- importing: 30 by the size, by no bytes, by 65,536 sectors and one byte more; 42; 33; each before the next
    ∷ gives 30 (import_verdict [] (7 ∷ []) 0 []) ∷ gives 42 (import_verdict [] (7 ∷ []) 65536 []) ∷ gives 30 (import_verdict [] (7 ∷ []) 65537 []) ∷ gives 30 (import_verdict [] [] 1 [])
    ∷ gives 33 (import_verdict [] (replicate 65536 7) 1 []) ∷ gives 30 (import_verdict [] (replicate 65537 7) 1 [])
    ∷ gives 42 (import_verdict [] (7 ∷ 7 ∷ 7 ∷ []) 2 []) ∷ gives 33 (import_verdict [] (7 ∷ 7 ∷ []) 2 (replicate 63 7)) ∷ gives 33 (import_verdict [] (7 ∷ 7 ∷ []) 2 (replicate 65 7))
    ∷ gives 0 (import_verdict [] (7 ∷ 7 ∷ []) 2 name)
    ∷ []
