-- The check of all sectors with each block summed once: what is checked at each point, and the first address that it refuses.
use Rattle.std.specs.Prelude.{Bool, true, false, not, List, ◌≢◌, ◌≡◌, ℕ, ◌/◌, ◌≤◌, ◌<◌, ℤ, pos, neg_ℤ, ◌+ℤ◌, Option, IfSome, Ok, Err}
use Rattle.crc64.specs.Crc.{crc_of}
use Rattle.format.specs.declared.ByteOffset.{ByteOffset}
use Rattle.format.specs.declared.Pointer.{Pointer}
use Rattle.format.specs.Tests.{below, at_least, ◌and◌, choose}
use Rattle.format.specs.Refusals.{refusal, row, ◌then◌, Verdict}
use Rattle.format.specs.Layouts.{DBLK, index_offset, entries, sector_size, block_length, block_cmp_crc64, block_crc64, block_payload}
use Rattle.format.specs.Opening.{sums_differ, offsets_of, Opened}
use Rattle.format.specs.Reading.{outside, entry_number, table_entry_at, not_written, unknown_status, pointer_at, has, block_verdict, sector_verdict}
use Rattle.format.specs.Committing.{other_than_21}
use Rattle.format.specs.Facts.{BlockOk}
use Rattle.index.specs.Entries.{entries_on}
use Rattle.opening.specs.Images.{held}
use Rattle.checking.specs.declared.First.{First}
use Rattle.checking.specs.declared.Scope.{Scope}
use Rattle.checking.specs.declared.Scope.TheVariants as scope

-- ---- which table entries are looked at
-- the address of table entry n
abbrev pub address_of : Opened → ℕ → ℤ
address_of t n = neg_ℤ (pos t.negative) +ℤ pos n

-- a child that opened as u leaves table entry n of a parent that opened as t to it, by one of its own entries below the limit
unfoldable pub leaves : List ℕ → Opened → ℕ → Opened → ℕ → Bool
leaves child u limit t n =
    let a = address_of t n in not (outside u a) and below (entry_number u a) limit and not_written child u (entry_number u a)

-- table entry n is in the scope
unfoldable pub in_scope : Scope → Opened → ℕ → Bool
in_scope scope.All t n = true
in_scope (scope.Gaps c) t n = leaves c.image.bytes.now (held c.image) c.limit.0 t n

-- it is written and in the scope
unfoldable pub looked_at : List ℕ → Opened → Scope → ℕ → Bool
looked_at img t scope n = not (not_written img t n) and in_scope scope t n

-- ---- what is checked of one
-- the blocks that the index names
abbrev pub indexed : List ℕ → List ℕ
indexed img = offsets_of DBLK (entries img (index_offset img))

-- what a pointer, whose table entry stands at place `at`, points to, but for the block's checksums: checks 22 to 26
unfoldable pub form_verdict : List ℕ → ℕ → Pointer → Verdict
form_verdict img at p =
    let b = p.block.0 in
    row (not (has b (indexed img))) (refusal 22 at)
    then block_verdict img b
    then row (at_least p.item.0 (block_length img b / sector_size img b)) (refusal 26 b)

-- table entry n, which is written, but for its block's checksums: 73, and the form of what it points to
unfoldable pub entry_form : List ℕ → Opened → ℕ → Verdict
entry_form img t n = row (unknown_status img t n) (refusal 73 0) then form_verdict img (table_entry_at t n) (pointer_at img t n)

-- what a caller knows of a block, if of one: that the index names it and that it passes all checks of a block before that of its checksums
abbrev pub Formed : List ℕ → Option ByteOffset → Type 0
Formed img known = IfSome known (λ (b : ByteOffset). (has b.0 (indexed img) ≡ true) × BlockOk img b.0)

-- a checksum of the block at b is wrong
abbrev pub wrong_sum : List ℕ → ℕ → Bool
wrong_sum img b = sums_differ (crc_of (block_payload img b)) (block_cmp_crc64 img b) (block_crc64 img b)

-- a test that is asked only where the checks before it pass
unfoldable pub only_after : Verdict → Bool → Bool
only_after (Ok tt) b = b
only_after (Err r) b = false

-- the block at b is well formed, and one of its checksums is wrong
unfoldable pub damaged : List ℕ → ℕ → Bool
damaged img b = only_after (block_verdict img b) (wrong_sum img b)

-- 27 in a damaged block that is none of those still to be looked at
abbrev pub mark : List ℕ → List ℕ → ℕ → Verdict
mark img left b = row (not (has b left) and damaged img b) (refusal 27 b)

-- table entry n, if it is looked at, while the blocks `left` are still to be: all checks but that of their checksums
unfoldable pub looked_verdict : List ℕ → Opened → (ℕ → Bool) → List ℕ → ℕ → Verdict
looked_verdict img t looks left n = choose (looks n) (entry_form img t n then mark img left (pointer_at img t n).block.0) (Ok tt)

-- the first of `count` table entries that a check refuses, and how; the count where there is none
pub record IsFirst (check : ℕ → Verdict) (count : ℕ) (first : First) : Type 0 where
  pub within : first.number.0 ≤ count
  pub before : (a : ℕ) → a < first.number.0 → check a ≡ Ok tt
  pub here : first.number.0 < count → (check first.number.0 ≡ first.verdict) × (first.verdict ≢ Ok tt)
  pub none : first.number.0 ≡ count → first.verdict ≡ Ok tt

-- the first table entry that is refused, of those that are looked at, while the blocks `left` are still to be
abbrev pub FirstLeft : List ℕ → Opened → (ℕ → Bool) → List ℕ → First → Type 0
FirstLeft img t looks left first = IsFirst (looked_verdict img t looks left) t.count first

-- the same, while the index entries from the i-th on are still to be looked at
abbrev pub FirstOn : List ℕ → Opened → (ℕ → Bool) → ℕ → First → Type 0
FirstOn img t looks i first = FirstLeft img t looks (offsets_of DBLK (entries_on img (index_offset img) i)) first

-- the first table entry that is refused, 21 too
abbrev pub FirstOfAll : List ℕ → Opened → First → Type 0
FirstOfAll img t first = IsFirst (sector_verdict img (entries img (index_offset img)) t) t.count first

-- the first that is refused other than with 21
abbrev pub FirstRefused : List ℕ → Opened → First → Type 0
FirstRefused img t first = IsFirst (λ (a : ℕ). other_than_21 (sector_verdict img (entries img (index_offset img)) t a)) t.count first

-- of those for which a test says yes
abbrev pub FirstWithin : List ℕ → Opened → (ℕ → Bool) → First → Type 0
FirstWithin img t within first =
    IsFirst (λ (a : ℕ). choose (within a) (other_than_21 (sector_verdict img (entries img (index_offset img)) t a)) (Ok tt)) t.count first
