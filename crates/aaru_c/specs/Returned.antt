-- What a call of the C interface leaves to its caller: the number that it returns, the values behind its pointers, and the bytes of the
-- buffer.
use Rattle.std.specs.Prelude.{List, ℕ, ℤ, Ok, Err}
use Rattle.format.specs.declared.AddressRange.{AddressRange}
use Rattle.format.specs.declared.Place.{Place}
use Rattle.format.specs.declared.Sourced.{Sourced}
use Rattle.format.specs.Refusals.{Answer}
use Rattle.format.specs.Writing.{Outcome}

pub record Returned (A : Type 0) : Type 0 where
  pub number : ℕ
  pub values : A
  pub place : ℕ

-- By what the call answers, and by the values and the place that stood behind its pointers: an accepted call returns 0, sets the values and leaves
-- the place; a refused one returns its number, sets the place and leaves the values. No refusal has the number 0 (`Demand1Refusals` in
-- format/specs/Demands), so 0 means "accepted" and nothing else.
unfoldable pub returned : {A : Type 0} → Answer A → A → ℕ → Returned A
returned (Ok a) values place = record { number = 0; values = a; place = place }
returned (Err r) values place = record { number = r.number; values = values; place = r.place.0 }

-- the values of aaru_sector_count
abbrev pub count_and_lowest : ℕ → ℤ → AddressRange
count_and_lowest count lowest = record { count = count; lowest = record { 0 = lowest } }

-- the values of aaru_locate; aaru_export_exact has one, those of aaru_export are `flat` of format/specs/Exporting, and those of the other calls that write are
-- `placed` of format/specs/Writing
abbrev pub start_and_size : ℕ → ℕ → Place
start_and_size start size = record { start = record { 0 = start }; size = size }

-- those of aaru_locate_over
abbrev pub which_start_and_size : ℕ → ℕ → ℕ → Sourced
which_start_and_size which start size = record { image = which; place = start_and_size start size }

-- of a call that writes also every byte of the buffer
pub record Left (A : Type 0) : Type 0 where
  pub answer : Returned A
  pub buffer : List ℕ

unfoldable pub left : {A : Type 0} → Outcome A → A → ℕ → Left A
left o values place = record { answer = returned o.result values place; buffer = o.buffer }
