-- Which table entries are looked at.
use mathlib.Core.Bool.{Bool, true, false, not}
use mathlib.Core.List.{List}
use mathlib.Core.Path.{◌≡◌, refl, ap, ◌∙◌}
use Prim.Native.Nat.{ℕ, ◌≤◌, ◌<◌}
use lib.IntN.{ℤ}
use Rattle.format.specs.Tests.{◌and◌}
use Rattle.format.specs.Opening.{Opened}
use Rattle.format.specs.Reading.{outside, entry_number, table_entry, unwritten}
use Rattle.format.proofs.Tests.{below-iff, below_true}
use Rattle.opening.proofs.Entries.{written_is}
use Rattle.checking.specs.declared.Scope.{Scope}
use Rattle.checking.specs.Checked.{address_of, leaves, in_scope, looked_at}

pub looked-is : (img : List ℕ) (t : Opened) (scope : Scope) (n : ℕ) {e : ℕ} {r : Bool} → e ≡ table_entry img t n
    → r ≡ (not (unwritten t.kind e) and in_scope scope t n) → r ≡ looked_at img t scope n
unfolding looked_at
looked-is img t scope n is h = h ∙ ap (λ (w : Bool). not w and in_scope scope t n) (written_is img t n is refl)

-- ---- what a child leaves to its parent, by the address of the parent's table entry
module _ (child : List ℕ) (u : Opened) (limit : ℕ) (t : Opened) (n : ℕ) {a : ℤ} (is : a ≡ address_of t n) where
  pub not_there : outside u a ≡ true → false ≡ leaves child u limit t n
  unfolding leaves ◌and◌
  not_there o = rw (← is, o)

  -- it is that of the child's table entry m
  module _ {m : ℕ} (there : (outside u a ≡ false) × (entry_number u a ≡ m) × (m < u.count)) where
    pub past-limit : limit ≤ m → false ≡ leaves child u limit t n
    unfolding leaves ◌and◌
    past-limit l = rw (← is, there.0, there.1, below-iff.1 l)

    pub left_is : {e : ℕ} {r : Bool} → m < limit → e ≡ table_entry child u m → r ≡ unwritten u.kind e → r ≡ leaves child u limit t n
    unfolding leaves ◌and◌
    left_is l q h = rw (← is, there.0, there.1, below_true m limit l) (written_is child u m q h)
