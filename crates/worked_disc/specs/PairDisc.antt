-- 8/13: discs over parents, of both kinds of table, read and flattened; worked out by hand, as a table of tests about the definitions. proofs/PairDisc proves that
-- all hold.
use Rattle.std.specs.Prelude.{Bool, false, List, [], ◌∷◌, ◌++◌, ℕ, length, take, replicate, ℤ, pos, negsuc, Ok, Err}
use Rattle.fields.specs.Bytes.{to_le, field, overwrite, equal}
use Rattle.format.specs.declared.Placed.{Placed}
use Rattle.format.specs.declared.Sourced.{Sourced}
use Rattle.format.specs.Tests.{same, ◌and◌}
use Rattle.format.specs.Refusals.{Answer}
use Rattle.format.specs.Writing.{Outcome}
use Rattle.format.specs.Overlaying.{read_over, locate_over, source_over}
use Rattle.format.specs.Flattening.{flatten}
use Rattle.worked_disc.specs.WorkedDisc.{leaves, refused_with, gives, has_table, AAAA, BBBB}
use Rattle.worked_disc.specs.FlatDisc.{exports}
use Rattle.worked_disc.specs.GapDisc.{gap_image, three, second_three}

-- located in this image at this place, of this size
unfoldable pub lies_in : ℕ → ℕ → ℕ → Answer Sourced → Bool
lies_in image start size (Err r) = false
lies_in image start size (Ok s) = same s.image image and same s.place.start.0 start and same s.place.size size

-- read as these bytes, which are that part of that image
unfoldable pub reads_from : ℕ → ℕ → List ℕ → List ℕ → List ℕ → ℤ → Bool
reads_from image start sector child parent a =
    gives sector (read_over child parent a) and lies_in image start (length sector) (locate_over child parent a) and exports image (source_over child parent a)

-- read as these bytes
abbrev pub reads : List ℕ → List ℕ → List ℕ → ℤ → Bool
reads sector child parent a = gives sector (read_over child parent a)

-- refused with this number at this place
abbrev pub refuses : ℕ → ℕ → List ℕ → List ℕ → ℤ → Bool
refuses number place child parent a = refused_with number place (read_over child parent a)

-- flattened into a buffer of n bytes, by a name of so many
abbrev pub flattens : ℕ → List ℕ → List ℕ → ℕ → Outcome Placed
flattens n child parent name = flatten (replicate n 238) child parent (replicate name 7) 1 2 3 4 5

abbrev pub one : ℕ → List ℕ
one a = gap_image (to_le 8 a) 1

abbrev pub child : List ℕ
child = three 208 0 0

abbrev pub parent : List ℕ
parent = three 209 296 0

abbrev pub damaged : List ℕ
damaged = overwrite parent 185 (46 ∷ [])

-- ---- read
unfoldable pub pair_disc : List Bool
pair_disc =
    -- the child's sector, though the parent has one; the parent's; in neither
    reads_from 0 140 AAAA child parent (pos 0) ∷ reads_from 1 184 (45 ∷ AAAA) child parent (pos 1) ∷ refuses 21 0 child parent (pos 2)
    ∷ refused_with 21 0 (source_over child parent (pos 2)) ∷ refused_with 21 0 (locate_over child parent (pos 2))
    -- an address that is none of the child's: 20, though the parent has it; one that is none of the parent's: 21
    ∷ refuses 20 0 (one 208) parent (pos 1) ∷ refuses 20 0 child parent (negsuc 0) ∷ refuses 21 0 child (one 209) (pos 1)
    -- the child itself as its parent
    ∷ reads AAAA child child (pos 0) ∷ refuses 21 0 child child (pos 1)
    ∷ []

unfoldable pub damaged_pair : List Bool
damaged_pair =
    -- a damaged parent, at the place in it, only where the child has no sector; an entry that points nowhere; no image at all
    refuses 127 148 child damaged (pos 1) ∷ reads AAAA child damaged (pos 0) ∷ refuses 122 246 child (three 209 300 0) (pos 1)
    ∷ refuses 101 0 child [] (pos 1) ∷ reads AAAA child [] (pos 0) ∷ refuses 20 0 child [] (pos 3)
    -- a damaged child's sector is the child's number, whatever the parent has; a child that is no image
    ∷ refuses 27 148 damaged child (pos 1) ∷ refuses 22 238 (three 300 0 0) parent (pos 0) ∷ refuses 1 0 [] parent (pos 0)
    ∷ []

unfoldable pub second_pair : List Bool
second_pair =
    -- a parent of the second kind, from address -1 on: "BBBB" at 0, another status at 1
    reads BBBB (three 0 0 0) (second_three 0x20000034) (pos 0) ∷ refuses 173 0 (three 0 0 0) (second_three 0x20000034) (pos 1) ∷ refuses 20 0 (three 0 0 0) (second_three 0) (negsuc 0)
    -- a child of the second kind: its own at 0 and its own 73, the parent's at 1, in neither at -1
    ∷ reads BBBB (second_three 0) child (pos 0) ∷ reads BBBB (second_three 0) (three 0 209 0) (pos 1) ∷ refuses 21 0 (second_three 0) child (negsuc 0)
    ∷ refuses 73 0 (second_three 0x20000034) (three 0 209 0) (pos 1)
    ∷ []

-- ---- flattened
-- "BBBB", "AAAA", "BBBB": what creating and one commit of them at 5 would leave, the third stored once; later bytes stay
unfoldable pub flattened_disc : List Bool
flattened_disc =
    let f = flattens 384 (three 0 208 0) (three 209 0 209) 64 in
    let i = take 382 f.buffer in
    leaves 382 330 f.result ∷ has_table i 257 1 (426 ∷ 427 ∷ 426 ∷ []) ∷ same (field i 88 8) 4 ∷ same (field i 96 8) 5 ∷ equal f.buffer (i ++ (238 ∷ 238 ∷ []))
    ∷ []

unfoldable pub flattened_room : List Bool
flattened_room =
    -- one byte too short: nothing is written
    refused_with 35 0 (flattens 381 (three 0 208 0) (three 209 0 209) 64).result ∷ equal (flattens 381 (three 0 208 0) (three 209 0 209) 64).buffer (replicate 381 238)
    -- none written: creating alone, and one byte too short
    ∷ leaves 213 177 (flattens 213 (three 0 0 0) (three 0 0 0) 64).result ∷ refused_with 35 0 (flattens 212 (three 0 0 0) (three 0 0 0) 64).result
    ∷ []

unfoldable pub flattened_order : List Bool
flattened_order =
    -- 33 before the child's opening numbers; those; 74; then the sectors' by rising address, the child's or the parent's
    refused_with 33 0 (flattens 0 [] parent 63).result ∷ refused_with 1 0 (flattens 0 [] parent 64).result ∷ refused_with 74 0 (flattens 0 (second_three 0) parent 64).result
    ∷ refused_with 122 238 (flattens 0 (three 0 300 0) (three 300 0 0) 64).result ∷ refused_with 22 238 (flattens 0 (three 300 0 0) (three 0 300 0) 64).result
    ∷ refused_with 101 0 (flattens 0 (three 208 0 300) [] 64).result ∷ refused_with 22 254 (flattens 0 (three 208 208 300) [] 64).result
    ∷ []

unfoldable pub flattened_sizes : List Bool
flattened_sizes =
    -- 40, mixed sizes, behind them and before 35; 30: no sectors
    refused_with 40 0 (flattens 0 child (three 0 296 0) 64).result ∷ refused_with 22 254 (flattens 0 (three 208 296 300) parent 64).result
    ∷ refused_with 30 0 (flattens 0 (gap_image [] 0) parent 64).result
    -- a parent's sector that the child has written is not looked at: a block of one sector is stored
    ∷ leaves 378 326 (flattens 378 (three 208 208 208) [] 64).result
    ∷ []
