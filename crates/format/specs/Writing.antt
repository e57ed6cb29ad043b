-- Creating, committing, rolling back: what the three have in common, and with the calls that came later.
use Rattle.std.specs.Prelude.{Bool, true, false, List, ℕ, length, Ok, Err}
use Rattle.fields.specs.Bytes.{overwrite, to_le}
use Rattle.format.specs.declared.Placed.{Placed}
use Rattle.format.specs.declared.TableKind.{TableKind}
use Rattle.format.specs.declared.TableKind.TheVariants.{First, Second}
use Rattle.format.specs.Tests.{below}
use Rattle.format.specs.Refusals.{refusal, row, ◌then◌, Answer, Verdict}
use Rattle.format.specs.Layouts.{index_offset_at, last_written_at}
use Rattle.format.specs.Opening.{open_verdict, opened}

-- 01's table of the numbers that these calls give besides opening's and reading's, with 2/13's 64:
--   30  E is 0 or over 1,048,576; sector size 0 or over 65,536; over 65,536 addresses
--   31  buffer longer than 4,294,967,296 bytes (creating, committing, rolling back only)
--   32  `used` exceeds the buffer
--   33  application is not 64 bytes; sectors' bytes are not count x size
--   34  addresses not strictly rising
--   35  the new `used` would exceed the buffer
abbrev pub most_sectors : ℕ
most_sectors = 1048576

abbrev pub largest_size : ℕ
largest_size = 65536

abbrev pub most_addresses : ℕ
most_addresses = 65536

abbrev pub longest_buffer : ℕ
longest_buffer = 4294967296

-- 31 and 32, with which committing and rolling back begin
unfoldable pub buffer_verdict : List ℕ → ℕ → Verdict
buffer_verdict buffer used = row (below longest_buffer (length buffer)) (refusal 31 0) then row (below (length buffer) used) (refusal 32 0)

-- 11/13: "Commit, rollback, .. are refused, so demand 3 stays with the old table"; "74, one of those four on such an image (rollback: at its offset),
-- after opening's"
unfoldable pub is_second : TableKind → Bool
is_second First = false
is_second Second = true

unfoldable pub writable_verdict : List ℕ → ℕ → Verdict
writable_verdict img o = open_verdict img o then row (is_second (opened img o).kind) (refusal 74 0)

-- what a call that writes answers, and every byte of the buffer afterwards
pub record Outcome (A : Type 0) : Type 0 where
  pub result : Answer A
  pub buffer : List ℕ

abbrev pub placed : ℕ → ℕ → Placed
placed used index = record { used = used; index = record { 0 = index } }

-- the outcome of a call on `buffer` by its verdict. 01, as 1/13 has it: "Each refusal, 1 to 35, returns its number and place and writes nothing."
unfoldable pub outcome : {A : Type 0} → List ℕ → Verdict → A → List ℕ → Outcome A
outcome buffer (Ok tt) a new = record { result = Ok a; buffer = new }
outcome buffer (Err r) a new = record { result = Err r; buffer = buffer }

-- "indexOffset and lastWrittenTime are set"
unfoldable pub set_header : List ℕ → ℕ → ℕ → List ℕ
set_header buffer index time = overwrite (overwrite buffer index_offset_at (to_le 8 index)) last_written_at (to_le 8 time)
