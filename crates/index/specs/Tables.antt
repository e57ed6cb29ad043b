-- What the search for the one table keeps and answers, in the terms of the definitions.
use Rattle.std.specs.Prelude.{List, ◌∷◌, ℕ, ◌+◌, get_or, Ok, Err}
use Rattle.format.specs.declared.ByteOffset.{ByteOffset}
use Rattle.format.specs.Refusals.{◌then◌, Answer, answer, Verdict}
use Rattle.format.specs.Layouts.{index_header_length, entry_count}
use Rattle.format.specs.Opening.{entries_verdict, one_of, one_verdict}
use Rattle.index.specs.declared.Tables.{Tables}
use Rattle.index.specs.declared.Tables.TheVariants as tables

-- checks 7 to 10 of the index at o
abbrev pub named_verdict : List ℕ → ℕ → Verdict
named_verdict img o = entries_verdict img (entry_count img o) (o + index_header_length) then one_verdict img o

-- checks 9 and 10 of the index at o, with these tables
abbrev pub one_answer : ℕ → List ℕ → Answer ℕ
one_answer o l = answer (one_of o l) (get_or l 0 0)

-- the tables seen, before those that are left; of more than one it does not matter which
unfoldable pub before : Tables → List ℕ → List ℕ
before tables.None l = l
before (tables.One t) l = t.0 ∷ l
before tables.More l = 0 ∷ 0 ∷ l

-- the one table's place, or the refusal
unfoldable pub only_one : Answer ByteOffset → Answer ℕ
only_one (Ok t) = Ok t.0
only_one (Err r) = Err r
