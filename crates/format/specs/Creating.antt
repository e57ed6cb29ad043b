-- "*Create* takes a buffer, a sector count E, 64 application bytes, two application version bytes, mediaType and two times."
-- 64, 104 and 189 are 2/13's, for 01's 32, 72 and 157.
use Rattle.std.specs.Prelude.{List, [], ◌∷◌, ◌++◌, ℕ, ◌+◌, ◌*◌, length, replicate}
use Rattle.fields.specs.Bytes.{overwrite}
use Rattle.format.specs.declared.Entry.{Entry}
use Rattle.format.specs.declared.Placed.{Placed}
use Rattle.format.specs.Tests.{same, differs, below, ◌or◌}
use Rattle.format.specs.Refusals.{refusal, row, ◌then◌, Verdict}
use Rattle.format.specs.Layouts.{DDT*, header_length, application_length, header_bytes, index_header_length, entry_length, user_data_entry, index_bytes, table_header_length, table_entry_length, table_bytes}
use Rattle.format.specs.Writing.{most_sectors, longest_buffer, Outcome, outcome, placed}

-- "a table of E zero entries with shift 0 at 104 .., then an index with that one entry (dataType 1): 189 + 8E bytes"
unfoldable pub created_index_at : ℕ → ℕ
created_index_at count = header_length + table_header_length + table_entry_length * count

unfoldable pub created_used : ℕ → ℕ
created_used count = created_index_at count + index_header_length + entry_length

abbrev pub created_entries : List Entry
created_entries = user_data_entry DDT* header_length ∷ []

unfoldable pub created_bytes : ℕ → List ℕ → ℕ → ℕ → ℕ → ℕ → ℕ → List ℕ
created_bytes count application major minor mediaType creationTime lastWrittenTime =
    header_bytes application major minor mediaType (created_index_at count) creationTime lastWrittenTime
    ++ (table_bytes 0 count (replicate (table_entry_length * count) 0) ++ index_bytes created_entries)

-- "Order: 31, 30 (E), 33 (application), 35."
unfoldable pub create_verdict : List ℕ → ℕ → List ℕ → Verdict
create_verdict buffer count application =
    row (below longest_buffer (length buffer)) (refusal 31 0)
    then row (same count 0 or below most_sectors count) (refusal 30 0)
    then row (differs (length application) application_length) (refusal 33 0)
    then row (below (length buffer) (created_used count)) (refusal 35 0)

-- "Later bytes of the buffer don't change."
unfoldable pub create : List ℕ → ℕ → List ℕ → ℕ → ℕ → ℕ → ℕ → ℕ → Outcome Placed
create buffer count application major minor mediaType creationTime lastWrittenTime =
    outcome buffer (create_verdict buffer count application) (placed (created_used count) (created_index_at count))
    (overwrite buffer 0 (created_bytes count application major minor mediaType creationTime lastWrittenTime))
