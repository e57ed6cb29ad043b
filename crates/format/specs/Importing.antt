-- 4/13, flat sector files in: "Import takes a flat file, a sector size and creating's arguments but E, and makes an image as creating and one commit at the
-- last time would."
use Rattle.std.specs.Prelude.{List, ℕ, ◌*◌, ◌/◌, ◌%◌, length, pos, Ok, Err}
use Rattle.format.specs.declared.Placed.{Placed}
use Rattle.format.specs.Tests.{same, differs, below, ◌or◌}
use Rattle.format.specs.Lists.{of_each}
use Rattle.format.specs.Refusals.{refusal, row, ◌then◌, Answer, answer, Verdict}
use Rattle.format.specs.Layouts.{application_length}
use Rattle.format.specs.Writing.{largest_size, most_addresses, longest_buffer, Outcome}
use Rattle.format.specs.Creating.{create}
use Rattle.format.specs.Committing.{commit}

-- "on import 31, 30 (also a length of 0 or above 65,536 x size), 42, length no multiple of the size, 33"; 35, behind them, is that of the two calls
unfoldable pub import_verdict : List ℕ → List ℕ → ℕ → List ℕ → Verdict
import_verdict buffer file size application =
    row (below longest_buffer (length buffer)) (refusal 31 0)
    then row (same size 0 or below largest_size size or same (length file) 0 or below (most_addresses * size) (length file)) (refusal 30 0)
    then row (differs (length file % size) 0) (refusal 42 0)
    then row (differs (length application) application_length) (refusal 33 0)

-- ---- a call that consists of others: a refusal of any of them is its own, and leaves the whole call's buffer
unfoldable pub or_leaves : List ℕ → Answer Placed → List ℕ → Outcome Placed
or_leaves buffer (Ok p) new = record { result = Ok p; buffer = new }
or_leaves buffer (Err r) new = record { result = Err r; buffer = buffer }

-- the next one, by the value of the one before
unfoldable pub and_then : {A : Type 0} → List ℕ → Answer A → (A → Outcome Placed) → Outcome Placed
and_then buffer (Ok a) next = or_leaves buffer (next a).result (next a).buffer
and_then buffer (Err r) next = record { result = Err r; buffer = buffer }

-- "creating and one commit at the last time", of all sectors of the file, to the addresses 0, 1, ..
unfoldable pub import : List ℕ → List ℕ → ℕ → List ℕ → ℕ → ℕ → ℕ → ℕ → ℕ → Outcome Placed
import buffer file size application major minor mediaType creationTime lastWrittenTime =
    and_then buffer (answer (import_verdict buffer file size application) (length file / size)) (λ count.
    let created = create buffer count application major minor mediaType creationTime lastWrittenTime in
    and_then buffer created.result (λ p.
    commit created.buffer p.used (of_each pos count 0) size file lastWrittenTime))
