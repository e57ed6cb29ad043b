-- What the number of a table entry says, for a caller that has read it once.
use mathlib.Core.Bool.{Bool}
use mathlib.Core.List.{List}
use mathlib.Core.Path.{◌≡◌}
use Prim.Native.Nat.{ℕ}
use Rattle.format.specs.declared.Pointer.{Pointer}
use Rattle.format.specs.Layouts.{entry_pointer, decode}
use Rattle.format.specs.Opening.{Opened}
use Rattle.format.specs.Reading.{table_entry, unwritten, not_written, unknown, unknown_status, pointer_at}

module _ (img : List ℕ) (t : Opened) (n : ℕ) {e : ℕ} (is : e ≡ table_entry img t n) where
  pub written_is : {r : Bool} → r ≡ unwritten t.kind e → r ≡ not_written img t n
  unfolding not_written
  written_is h = rw is at h

  pub status-is : {r : Bool} → r ≡ unknown t.kind e → r ≡ unknown_status img t n
  unfolding unknown_status
  status-is h = rw is at h

  pub pointer_is : {p : Pointer} → p ≡ decode t.shift t.alignment (entry_pointer t.kind e) → p ≡ pointer_at img t n
  unfolding pointer_at
  pointer_is h = rw is at h
