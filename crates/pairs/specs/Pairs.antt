-- What the functions over a pair of images ask for, and what they answer.
use Rattle.std.specs.Prelude.{Bool, false, List, ◌≡◌, ℕ, zero, suc, ◌<◌, Ok}
use Rattle.fields.specs.Bytes.{equal}
use Rattle.format.specs.Tests.{◌or◌}
use Rattle.format.specs.Refusals.{Answer, answer}
use Rattle.format.specs.Layouts.{index_offset, entries}
use Rattle.format.specs.Opening.{Opened}
use Rattle.format.specs.Reading.{pointer_at, item_bytes, sector_verdict}
use Rattle.format.specs.Answers.{bytes_read}
use Rattle.format.specs.Committing.{other_than_21}
use Rattle.format.specs.Flattening.{pair_at}

-- ---- one image
-- what reading the address of table entry n of an image that opened as t answers
unfoldable pub entry_answer : List ℕ → Opened → ℕ → Answer (List ℕ)
entry_answer img t n = answer (sector_verdict img (entries img (index_offset img)) t n) (item_bytes img (pointer_at img t n))

-- a table entry that is there, and that is not written or has a good sector
pub record EntryChecked (img : List ℕ) (t : Opened) (n : ℕ) : Type 0 where
  pub inside : n < t.count
  pub passes : other_than_21 (sector_verdict img (entries img (index_offset img)) t n) ≡ Ok tt

-- ---- the pair
-- its sector at address n of the child, empty where it has none
abbrev pub sector_at : List ℕ → List ℕ → ℕ → List ℕ
sector_at child parent n = bytes_read (pair_at child parent n)

-- one of the addresses below n has this sector
unfoldable pub held_below : (ℕ → List ℕ) → List ℕ → ℕ → Bool
held_below disc sector zero = false
held_below disc sector (suc n) = equal (disc n) sector or held_below disc sector n
