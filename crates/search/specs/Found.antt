-- What the searches answer, and what they ask for.
use Rattle.std.specs.Prelude.{List, ◌≡◌, ℕ, Option, Some, None, Ok}
use Rattle.std.proofs.Math.Option.{none, some}
use Rattle.std.proofs.Math.Option as definition
use Rattle.format.specs.declared.EntryNumber.{EntryNumber}
use Rattle.format.specs.declared.ItemNumber.{ItemNumber}
use Rattle.format.specs.declared.Place.{Place}
use Rattle.format.specs.Tests.{choose}
use Rattle.format.specs.Layouts.{index_offset, entries}
use Rattle.format.specs.Opening.{Opened, opening}
use Rattle.format.specs.Reading.{not_written, pointer_at, place_of}
use Rattle.format.specs.Committing.{sectors_verdict}

-- an image that opens to t, all of whose sectors pass a commit's checks: each is good or not written
abbrev pub Checked : List ℕ → Opened → Type 0
Checked img t = (opening img ≡ Ok t) × (sectors_verdict img (entries img (index_offset img)) t ≡ Ok tt)

-- the table entry found
unfoldable pub entry_found : Option EntryNumber → definition.Option ℕ
entry_found (Some a) = some a.0
entry_found None = none

-- the item found
unfoldable pub item_found : Option ItemNumber → definition.Option ℕ
item_found (Some i) = some i.0
item_found None = none

-- what table entry a has
unfoldable pub slot_at : List ℕ → Opened → ℕ → Option Place
slot_at img t a = choose (not_written img t a) None (Some (place_of img (pointer_at img t a)))
