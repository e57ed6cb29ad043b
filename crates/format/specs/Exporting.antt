-- 4/13 and 9/13, flat sector files out: "all sectors by rising address in a plain file. Export fills the front of a lent buffer and reports the length". There
-- are two rules for a sector that is not written: 9/13's fills its place with zeros, 4/13's refuses, and "stays under its own name", `export_exact`. The numbers
-- of the table entries rise with the addresses, from the lowest on, so the sectors go by them.
use Rattle.std.specs.Prelude.{not, ℕ, zero, suc, length, replicate}
use mathlib.Core.List.{List, flatten}
use Rattle.fields.specs.Bytes.{overwrite}
use Rattle.format.specs.declared.Flat.{Flat}
use Rattle.format.specs.Tests.{same, differs, below, ◌and◌, choose}
use Rattle.format.specs.Lists.{of_each, how_many}
use Rattle.format.specs.Refusals.{refusal, row, ◌then◌, first_refusal, Verdict}
use Rattle.format.specs.Layouts.{index_offset, entries}
use Rattle.format.specs.Opening.{Opened, opened, open_verdict}
use Rattle.format.specs.Reading.{not_written, pointer_at, place_of, item_bytes, sector_verdict}
use Rattle.format.specs.Writing.{Outcome, outcome}
use Rattle.format.specs.Committing.{sectors_verdict}

-- ---- the file
-- how long the sector of table entry n is, which is written
unfoldable pub size_at : List ℕ → Opened → ℕ → ℕ
size_at img t n = (place_of img (pointer_at img t n)).size

-- the size of the first written one of the k from n on; 0 where none is
unfoldable pub size_from : List ℕ → Opened → ℕ → ℕ → ℕ
size_from img t zero n = 0
size_from img t (suc k) n = choose (not_written img t n) (size_from img t k (suc n)) (size_at img t n)

-- 9/13: "the size of the lowest written sector"
unfoldable pub flat_size : List ℕ → Opened → ℕ
flat_size img t = size_from img t t.count 0

-- what stands for table entry n: its sector; 9/13: "zeros of the size of the lowest written sector for each unwritten one"
unfoldable pub piece_at : List ℕ → Opened → ℕ → List ℕ
piece_at img t n = choose (not_written img t n) (replicate (flat_size img t) 0) (item_bytes img (pointer_at img t n))

-- "all sectors by rising address"
unfoldable pub flat_file : List ℕ → Opened → List ℕ
flat_file img t = flatten (of_each (piece_at img t) t.count 0)

-- how many are not written
unfoldable pub gap_count : List ℕ → Opened → ℕ
gap_count img t = how_many (not_written img t) t.count 0

-- ---- the checks, with o for the index's offset
-- "40, sizes differ": from the lowest written one's
unfoldable pub size_verdict : List ℕ → Opened → ℕ → Verdict
size_verdict img t n = row (not (not_written img t n) and differs (size_at img t n) (flat_size img t)) (refusal 40 0)

-- with which both rules end: "then 40, sizes differ, then 41, buffer too short"
unfoldable pub file_verdict : List ℕ → Opened → List ℕ → Verdict
file_verdict img t out =
    first_refusal (size_verdict img t) t.count 0
    then row (below (length out) (length (flat_file img t))) (refusal 41 0)

-- 4/13: "opening's numbers, then the sectors' by rising address"; "an unwritten sector refuses with 21"
unfoldable pub exact_verdict : List ℕ → ℕ → List ℕ → Verdict
exact_verdict img o out =
    let t = opened img o in
    open_verdict img o
    then first_refusal (sector_verdict img (entries img o) t) t.count 0
    then file_verdict img t out

-- 9/13: "21 in the plain call only as said, after the sectors' other numbers and before 40": "A disc with nothing written still refuses with 21", but "A disc of
-- no sectors gives length 0, none filled"
unfoldable pub export_verdict : List ℕ → ℕ → List ℕ → Verdict
export_verdict img o out =
    let t = opened img o in
    open_verdict img o
    then sectors_verdict img (entries img o) t
    then row (differs t.count 0 and same (gap_count img t) t.count) (refusal 21 0)
    then file_verdict img t out

-- ---- the calls. Later bytes of the buffer stay as they are
-- 4/13's answers the length
unfoldable pub export_exact : List ℕ → List ℕ → Outcome ℕ
export_exact img out =
    let o = index_offset img in
    let file = flat_file img (opened img o) in
    outcome out (exact_verdict img o out) (length file) (overwrite out 0 file)

abbrev pub flat : ℕ → ℕ → Flat
flat length filled = record { length = length; filled = filled }

-- 9/13's also "reports how many it filled"
unfoldable pub export : List ℕ → List ℕ → Outcome Flat
export img out =
    let o = index_offset img in
    let t = opened img o in
    let file = flat_file img t in
    outcome out (export_verdict img o out) (flat (length file) (gap_count img t)) (overwrite out 0 file)
