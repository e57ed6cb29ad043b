-- "*Rollback* takes buffer, `used`, an offset, a time. Order: 31, 32, 1 to 3, then opening's checks 4 to 14 with that offset in place
-- of the header's" (11/13: then 74). "It sets indexOffset and lastWrittenTime only; `used` stays. It answers with `used` and the offset. Times are not compared."
use Rattle.std.specs.Prelude.{List, ℕ, take}
use Rattle.format.specs.declared.Placed.{Placed}
use Rattle.format.specs.Refusals.{◌then◌, Verdict}
use Rattle.format.specs.Writing.{buffer_verdict, writable_verdict, Outcome, outcome, placed, set_header}

unfoldable pub rollback_verdict : List ℕ → ℕ → ℕ → Verdict
rollback_verdict buffer used offset = buffer_verdict buffer used then writable_verdict (take used buffer) offset

unfoldable pub rollback : List ℕ → ℕ → ℕ → ℕ → Outcome Placed
rollback buffer used offset time =
    outcome buffer (rollback_verdict buffer used offset) (placed used offset) (set_header buffer offset time)
