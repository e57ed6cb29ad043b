-- What one address of the pass adds, by what the searches answer.
use mathlib.Core.Bool.{Bool, true, false, not}
use mathlib.Core.List.{List}
use mathlib.Core.Path.{◌≡◌, refl, sym, ap, ◌∙◌}
use Prim.Native.Nat.{ℕ, ◌+◌, ◌*◌, ◌≤◌, ◌<◌}
use native.Mathlib.Omega.{arith}
use lib.ListN.{length, drop}
use Rattle.std.specs.Prelude.{Option, Some, None, is_some}
use Rattle.fields.proofs.Overwrite.{length_part}
use Rattle.format.specs.declared.ItemNumber.{ItemNumber}
use Rattle.format.specs.declared.Pointer.{Pointer}
use Rattle.format.specs.declared.EntryNumber.{EntryNumber}
use Rattle.format.specs.Opening.{Opened}
use Rattle.format.specs.Reading.{pointer_at}
use Rattle.format.specs.Committing.{on_disc, among_stored, pieces, old_pointer, item_or_zero}
use Rattle.format.proofs.Tests.{choose-true, choose-false}
use Rattle.format.proofs.Storing.{on_disc-found}
use Rattle.opening.specs.Answers.{PointsTo}
use Rattle.search.specs.Found.{entry_found, item_found}
use Rattle.search.proofs.Stored.{room}
use Rattle.planning.specs.Plans.{is_next, Commits, sector_of, Looks, missing, is_new, looked_for, looked}
use Rattle.planning.proofs.Cursor.{next-listed}

-- the item of an address, by what its table entry points to
module _ (img : List ℕ) (t : Opened) (a : ℕ) where
  pub item-none : PointsTo img t a None → 0 ≡ item_or_zero (old_pointer img t a)
  unfolding old_pointer item_or_zero PointsTo
  item-none k = ap item_or_zero (sym (choose-true _ _ _ k))

  pub item-old : (p : Pointer) → PointsTo img t a (Some p) → p.item.0 ≡ item_or_zero (old_pointer img t a)
  unfolding old_pointer item_or_zero PointsTo
  item-old p k = ap (λ (q : Pointer). q.item.0) k.1 ∙ ap item_or_zero (sym (choose-false _ _ _ k.0))

pub next-looks : {img : List ℕ} {t : Opened} {addresses : List ℕ} {size : ℕ} {sectors : List ℕ} (k a stored : ℕ) → Commits img t addresses size sectors
    → is_next addresses k a ≡ true → stored ≤ k → Looks img t size sectors k stored
next-looks {addresses = addresses} {size = size} k a stored c e h =
    let l = next-listed addresses k a e in
    (c.checked, rw c.whole (room size l), omega (arith, c.few), h)

-- a search that found nothing
none-missing : (q : Option ItemNumber) {b : Bool} → is_some q ≡ not b → b ≡ missing (item_found q)
unfolding missing item_found
none-missing None {b = true} e = refl
none-missing None {b = false} e = e
none-missing (Some i) {b = true} e = e
none-missing (Some i) {b = false} e = refl

-- ---- the sectors before sector k, whose bytes are d, are searched for it
module _ (size : ℕ) (sectors : List ℕ) (k : ℕ) (inside : k * size + size ≤ length sectors) (d : List ℕ) (is : d ≡ sector_of size sectors k) where
  long : length d ≡ size
  long = ap length is ∙ length_part sectors (k * size) size inside

  pub earlier-inside : 0 + k * length d ≤ length sectors
  earlier-inside = rw long (omega arith)

  module _ (q : Option ItemNumber) (among : item_found q ≡ among_stored (pieces k (length d) (drop 0 sectors)) d) where
    earlier : item_found q ≡ among_stored (pieces k size sectors) (sector_of size sectors k)
    earlier = among ∙ (λ j. among_stored (pieces k (long j) sectors) (is j))

    pub new-if-none : {b : Bool} → is_some q ≡ not b → b ≡ is_new size sectors k
    unfolding is_new
    new-if-none e = none-missing q e ∙ ap missing earlier

pub found_inside : (img : List ℕ) (t : Opened) (d : List ℕ) (r : Option EntryNumber) → entry_found r ≡ on_disc img t d → (a : EntryNumber) → r ≡ Some a → a.0 < t.count
unfolding entry_found
found_inside img t d r disc a e = (on_disc-found img t d a.0 (sym (rw e at disc))).inside

-- ---- the handed-in sector k, whose bytes are d; r and b are what the searches answer
module _ (img : List ℕ) (t : Opened) (size : ℕ) (sectors : List ℕ) (k stored : ℕ)
    (d : List ℕ) (is : d ≡ sector_of size sectors k) (r : Option EntryNumber) (disc : entry_found r ≡ on_disc img t d) where
  pub looked-old : (a : EntryNumber) (p : Pointer) → r ≡ Some a → p ≡ pointer_at img t a.0
      → record { item = p.item; stored = stored; k = k + 1 } ≡ looked img t size sectors k stored
  unfolding looked looked_for entry_found
  looked-old a p e f = rw (← is, ← disc, e, f)

  module _ {b : Bool} (lost : r ≡ None) (new : b ≡ is_new size sectors k) where
    pub looked-new : b ≡ true → record { item = record { 0 = stored }; stored = stored + 1; k = k + 1 } ≡ looked img t size sectors k stored
    unfolding looked looked_for entry_found
    looked-new e = rw (← is, ← disc, lost, ← new, e)

    pub looked-earlier : b ≡ false → record { item = record { 0 = 0 }; stored = stored; k = k + 1 } ≡ looked img t size sectors k stored
    unfolding looked looked_for entry_found
    looked-earlier e = rw (← is, ← disc, lost, ← new, e)
