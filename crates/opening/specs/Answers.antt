-- What the answers of this crate say in the terms of the definitions.
use Rattle.std.specs.Prelude.{List, true, false, ◌≡◌, ℕ, ◌≤◌, ◌<◌, ℤ, Option, Some, None, Ok, Err}
use Rattle.format.specs.declared.EntryNumber.{EntryNumber}
use Rattle.format.specs.declared.Pointer.{Pointer}
use Rattle.format.specs.declared.TableKind.TheVariants.{First}
use Rattle.format.specs.Reading.{outside, entry_number, not_written, pointer_at}
use Rattle.format.specs.Refusals.{Answer}
use Rattle.format.specs.Opening.{kind_by}
use Rattle.format.specs.Opening as format
use Rattle.opening.specs.declared.Opened.{Opened}

-- what opening found
abbrev pub contents : Opened → format.Opened
contents t = record { kind = t.kind; table = t.table.0; count = t.count; shift = t.shift; alignment = t.alignment; negative = t.negative }

-- ---- what opening found, or the refusal
unfoldable pub outcome : Answer Opened → Answer format.Opened
outcome (Ok t) = Ok (contents t)
outcome (Err r) = Err r

-- what opening has checked so that no pointer of the table wraps
pub record Decodes (t : format.Opened) : Type 0 where
  pub shift : t.shift ≤ 32
  pub alignment : t.alignment ≤ 32
  pub flat : t.kind ≡ First → t.alignment ≡ 0

-- ---- an address: its table entry's number, or that it is outside
unfoldable pub IsNumbered : format.Opened → ℤ → Option EntryNumber → Type 0
IsNumbered t a (Some n) = (outside t a ≡ false) × (entry_number t a ≡ n.0) × (n.0 < t.count)
IsNumbered t a None = outside t a ≡ true

-- ---- table entry n: what it encodes, or that it is not written
unfoldable pub PointsTo : List ℕ → format.Opened → ℕ → Option Pointer → Type 0
PointsTo img t n (Some p) = (not_written img t n ≡ false) × (p ≡ pointer_at img t n)
PointsTo img t n None = not_written img t n ≡ true
