-- What the answers of the public calls leave in a caller's hands.
use Rattle.std.specs.Prelude.{List, [], ℕ, Ok, Err}
use Rattle.format.specs.Refusals.{Answer}
use Rattle.format.specs.Writing.{Outcome}

-- A read hands out a part of the lent image, and no answer holds a part and a number both. So a refused read hands out the empty part, which
-- is no sector (a sector size of 0 is 25), and its number is that of `locate`.
unfoldable pub bytes_read : Answer (List ℕ) → List ℕ
bytes_read (Ok sector) = sector
bytes_read (Err r) = []

-- a call that writes: its answer, and every byte of the buffer afterwards
unfoldable pub answered : {A : Type 0} → Answer A → List ℕ → Outcome A
answered answer buffer = record { result = answer; buffer = buffer }
