-- One turn of the second pass of a commit: what becomes of a table entry, and of the sector that is handed in for its address.
use mathlib.Core.List.{List, [], flatten}
use Rattle.std.specs.Prelude.{◌≢◌, ◌≡◌, ℕ, ◌+◌, ◌*◌, ◌≤◌, ◌<◌, length, take, drop}
use Rattle.std.proofs.Math.Option.{Option, none, some}
use Rattle.fields.specs.Bytes.{overwrite}
use Rattle.format.specs.declared.Pointer.{Pointer}
use Rattle.format.specs.declared.TableKind.TheVariants.{First}
use Rattle.format.specs.Tests.{choose}
use Rattle.format.specs.Layouts.{block_header_length, encode}
use Rattle.format.specs.Opening.{Opened}
use Rattle.format.specs.Writing.{longest_buffer}
use Rattle.format.specs.Committing.{pieces, Step, store_one, old_pointer}
use Rattle.planning.specs.Plans.{is_next, Commits, sector_of}
use Rattle.storing.specs.declared.Handed.{Handed}
use Rattle.storing.specs.declared.Next.{Next}

-- what becomes of a handed-in sector where `items` are stored; the new block stands at the end of the image
abbrev pub step_at : List ℕ → Opened → List (List ℕ) → List ℕ → Step
step_at img t items sector = store_one img t (length img) items sector

-- a disc of no sectors, on which every search finds nothing
abbrev pub no_disc : Opened
no_disc = record { kind = First; table = 0; count = 0; shift = 0; alignment = 0; negative = 0 }

-- what becomes of a sector that the disc does not hold, where `items` are stored in a block at `block`
abbrev pub add_at : ℕ → List (List ℕ) → List ℕ → Step
add_at block items sector = store_one [] no_disc block items sector

-- the number that a table entry holds
unfoldable pub entry_of : ℕ → Option Pointer → ℕ
entry_of shift none = 0
entry_of shift (some p) = encode shift p

-- the sectors stored after a table entry, its pointer in the new table, and how many addresses of the list are used up after it
pub record Turn : Type 0 where
  pub items : List (List ℕ)
  pub pointer : Option Pointer
  pub k : ℕ

-- for entry a, where k addresses are used up
unfoldable pub turn_at : List ℕ → Opened → List ℕ → ℕ → List ℕ → List (List ℕ) → ℕ → ℕ → Turn
turn_at img t addresses size sectors items k a =
    let step = step_at img t items (sector_of size sectors k) in
    choose (is_next addresses k a)
    (record { items = step.stored; pointer = some step.pointer; k = k + 1 })
    (record { items = items; pointer = old_pointer img t a; k = k })

-- ---- by a buffer with n sectors stored behind the place of the header of the block at `block`
abbrev pub items_in : List ℕ → ℕ → ℕ → ℕ → List (List ℕ)
items_in buf block n size = pieces n size (drop (block + block_header_length) buf)

abbrev pub add_in : List ℕ → ℕ → List ℕ → ℕ → Step
add_in buf block sector n = add_at block (items_in buf block n (length sector)) sector

-- whose first `used` bytes are the image, and the block stands behind it
abbrev pub step_in : List ℕ → ℕ → Opened → List ℕ → ℕ → Step
step_in buf used t sector n = step_at (take used buf) t (items_in buf used n (length sector)) sector

abbrev pub turn_in : List ℕ → ℕ → Opened → List ℕ → ℕ → List ℕ → ℕ → ℕ → ℕ → Turn
turn_in buf used t addresses size sectors k a n = turn_at (take used buf) t addresses size sectors (items_in buf used n size) k a

-- a sector that becomes `step`, with room for what is stored after it
pub record Steps (buf : List ℕ) (block : ℕ) (sector : List ℕ) (step : Step) : Type 0 where
  pub pos : length sector ≢ 0
  pub short : length buf ≤ longest_buffer
  pub room : block + block_header_length + length step.stored * length sector ≤ length buf

-- what is answered for it, and the buffer afterwards; the sectors that are stored already are written over by themselves
pub record Stepped (buf after : List ℕ) (block : ℕ) (step : Step) (r : Handed) : Type 0 where
  pub pointer : r.pointer ≡ step.pointer
  pub stored : r.stored ≡ length step.stored
  pub buffer : after ≡ overwrite buf (block + block_header_length) (flatten step.stored)

-- a table entry, with room for a sector that has to be stored for it
pub record Turns (buf : List ℕ) (used : ℕ) (t : Opened) (addresses : List ℕ) (size : ℕ) (sectors : List ℕ) (shift k a n : ℕ) : Type 0 where
  pub commits : Commits (take used buf) t addresses size sectors
  pub below : a < t.count
  pub short : length buf ≤ longest_buffer
  pub room : used + block_header_length + length (turn_in buf used t addresses size sectors k a n).items * size ≤ length buf
  pub low : shift ≤ 32

-- what is answered for it, and the buffer afterwards
pub record Turned (buf after : List ℕ) (used : ℕ) (t : Opened) (addresses : List ℕ) (size : ℕ) (sectors : List ℕ) (shift k a n : ℕ) (r : Next) : Type 0 where
  pub entry : r.entry ≡ entry_of shift (turn_in buf used t addresses size sectors k a n).pointer
  pub stored : r.stored ≡ length (turn_in buf used t addresses size sectors k a n).items
  pub next : r.k ≡ (turn_in buf used t addresses size sectors k a n).k
  pub buffer : after ≡ overwrite buf (used + block_header_length) (flatten (turn_in buf used t addresses size sectors k a n).items)
