-- 4/13: a flat file of three sectors, imported and exported again, and the worked disc exported, by 4/13's rule; worked out by hand, as a table of tests about
-- the definitions. proofs/FlatDisc proves that all hold.
use Rattle.std.specs.Prelude.{Bool, false, List, [], ◌∷◌, ◌++◌, ℕ, take, replicate, pos, Ok, Err}
use Rattle.fields.specs.Bytes.{field, equal}
use Rattle.format.specs.declared.Placed.{Placed}
use Rattle.format.specs.Tests.{same}
use Rattle.format.specs.Refusals.{Answer}
use Rattle.format.specs.Writing.{Outcome}
use Rattle.format.specs.Creating.{create}
use Rattle.format.specs.Committing.{commit}
use Rattle.format.specs.Exporting.{export_exact}
use Rattle.format.specs.Importing.{import}
use Rattle.worked_disc.specs.WorkedDisc.{leaves, refused_with, has_table, AAAA, BBBB}

-- accepted with so many bytes
unfoldable pub exports : ℕ → Answer ℕ → Bool
exports n (Err r) = false
exports n (Ok length) = same length n

abbrev pub file : List ℕ
file = AAAA ++ (BBBB ++ AAAA)

-- into a buffer of n bytes, by a name of so many
abbrev pub imports : ℕ → List ℕ → ℕ → ℕ → Outcome Placed
imports n l size name = import (replicate n 238) l size (replicate name 7) 1 2 3 4 5

unfoldable pub flat_disc : List Bool
flat_disc =
    let f = imports 400 file 4 64 in
    let i = take 382 f.buffer in
    let e = export_exact i (replicate 14 238) in
    let b1 = (create (replicate 600 238) 3 (replicate 64 7) 1 2 3 4 5).buffer in
    let b2 = (commit b1 213 (pos 0 ∷ pos 2 ∷ []) 4 (AAAA ++ BBBB) 6).buffer in
    let b3 = (commit b2 382 (pos 1 ∷ []) 5 (45 ∷ AAAA) 7).buffer in
    -- as P2's, the third sector stored once: its entry is the first one's; creating's times, the last of them the commit's too
    leaves 382 330 f.result ∷ has_table i 257 1 (426 ∷ 427 ∷ 426 ∷ []) ∷ same (field i 88 8) 4 ∷ same (field i 96 8) 5
    -- exported: the same bytes, later ones stay; a buffer that is just long enough, and one byte too short
    ∷ exports 12 e.result ∷ equal e.buffer (file ++ (238 ∷ 238 ∷ [])) ∷ exports 12 (export_exact i (replicate 12 238)).result ∷ refused_with 41 0 (export_exact i (replicate 11 238)).result
    -- P2's disc, address 1 not written: 21, whatever the buffer; with a sector of five bytes there: 40, also before 41
    ∷ refused_with 21 0 (export_exact (take 382 b2) []).result ∷ refused_with 40 0 (export_exact (take 564 b3) (replicate 13 238)).result ∷ refused_with 40 0 (export_exact (take 564 b3) []).result
    -- an import's checks, each before the next: 30, 42, 33, 35; nothing is written; one byte less than it takes
    ∷ refused_with 30 0 (imports 400 [] 4 63).result ∷ refused_with 30 0 (imports 400 file 0 63).result ∷ refused_with 30 0 (imports 400 file 65537 63).result
    ∷ refused_with 42 0 (imports 20 file 5 63).result ∷ refused_with 33 0 (imports 20 file 4 63).result ∷ refused_with 35 0 (imports 20 file 4 64).result
    ∷ refused_with 35 0 (imports 381 file 4 64).result ∷ equal (imports 381 file 4 64).buffer (replicate 381 238) ∷ leaves 382 330 (imports 382 file 4 64).result
    ∷ []
