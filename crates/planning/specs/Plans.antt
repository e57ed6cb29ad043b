-- The first pass of a commit: what it asks for, and what it finds.
use Rattle.std.specs.Prelude.{Bool, true, false, List, [], ◌∷◌, ◌≢◌, ◌≡◌, ℕ, ◌+◌, ◌*◌, ◌≤◌, ◌<◌, length, drop}
use Rattle.std.proofs.Math.Option.{Option, none, some}
use Rattle.fields.specs.Bytes.{part}
use Rattle.format.specs.declared.Pointer.{Pointer}
use Rattle.format.specs.Tests.{same, below, choose}
use Rattle.format.specs.Lists.{All}
use Rattle.format.specs.Opening.{Opened}
use Rattle.format.specs.Reading.{pointer_at}
use Rattle.format.specs.Writing.{longest_buffer, largest_size, most_addresses}
use Rattle.format.specs.Committing.{rising_by, on_disc, among_stored, pieces, Stored, store_all, old_pointer, new_pointers, item_or_zero, largest_item}
use Rattle.search.specs.Found.{Checked}
use Rattle.planning.specs.declared.Planned.{Planned}
use Rattle.planning.specs.declared.Looked.{Looked}

-- the first number of a list is a
unfoldable pub heads : List ℕ → ℕ → Bool
heads [] a = false
heads (b ∷ bs) a = same b a

-- a is the next of the numbers, where k are used up
unfoldable pub is_next : List ℕ → ℕ → ℕ → Bool
is_next addresses k a = heads (drop k addresses) a

-- a commit all of whose checks but 35 have passed, to the image img, opened as t; its addresses by the numbers of their table entries
pub record Commits (img : List ℕ) (t : Opened) (addresses : List ℕ) (size : ℕ) (sectors : List ℕ) : Type 0 where
  pub checked : Checked img t
  pub short : length img ≤ longest_buffer
  pub rises : rising_by below addresses ≡ true
  pub inside : All (λ (n : ℕ). n < t.count) addresses
  pub few : length addresses ≤ most_addresses
  pub pos : size ≢ 0
  pub small : size ≤ largest_size
  pub whole : length sectors ≡ length addresses * size

-- the handed-in sector k
abbrev pub sector_of : ℕ → List ℕ → ℕ → List ℕ
sector_of size sectors k = part sectors (k * size) size

-- what becomes of the handed-in sectors; the new data block will stand at the end of the image
abbrev pub stored_by : List ℕ → Opened → List ℕ → ℕ → List ℕ → Stored
stored_by img t addresses size sectors = store_all img t (length img) [] (pieces (length addresses) size sectors)

-- the pointers of the new table
abbrev pub pointers_by : List ℕ → Opened → List ℕ → ℕ → List ℕ → List (Option Pointer)
pointers_by img t addresses size sectors = new_pointers img t addresses (stored_by img t addresses size sectors).pointers t.count 0

-- how many are stored, and the largest item number of the new table
unfoldable pub plan_for : List ℕ → Opened → List ℕ → ℕ → List ℕ → Planned
plan_for img t addresses size sectors =
    record {
      stored = length (stored_by img t addresses size sectors).items;
      largest = record { 0 = largest_item (pointers_by img t addresses size sectors) };
    }

-- ---- one table entry of the pass
-- the handed-in sector k lies among the sectors, and at most as many are stored as were handed in before it
abbrev pub Looks : List ℕ → Opened → ℕ → List ℕ → ℕ → ℕ → Type 0
Looks img t size sectors k stored = Checked img t × (k * size + size ≤ length sectors) × (k < most_addresses) × (stored ≤ k)

-- a search found nothing
unfoldable pub missing : Option ℕ → Bool
missing none = true
missing (some j) = false

-- sector k equals none before it
unfoldable pub is_new : ℕ → List ℕ → ℕ → Bool
is_new size sectors k = missing (among_stored (pieces k size sectors) (sector_of size sectors k))

-- what sector k adds, by what is found on the disc and by whether it is new among those handed in
unfoldable pub looked_for : List ℕ → Opened → ℕ → ℕ → Option ℕ → Bool → Looked
looked_for img t k stored (some a) b = record { item = (pointer_at img t a).item; stored = stored; k = k + 1 }
looked_for img t k stored none false = record { item = record { 0 = 0 }; stored = stored; k = k + 1 }
looked_for img t k stored none true = record { item = record { 0 = stored }; stored = stored + 1; k = k + 1 }

unfoldable pub looked : List ℕ → Opened → ℕ → List ℕ → ℕ → ℕ → Looked
looked img t size sectors k stored = looked_for img t k stored (on_disc img t (sector_of size sectors k)) (is_new size sectors k)

-- what table entry a adds
unfoldable pub looked_at : List ℕ → Opened → List ℕ → ℕ → List ℕ → ℕ → ℕ → ℕ → Looked
looked_at img t addresses size sectors k a stored =
    choose (is_next addresses k a) (looked img t size sectors k stored)
    (record { item = record { 0 = item_or_zero (old_pointer img t a) }; stored = stored; k = k })
