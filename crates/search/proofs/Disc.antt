-- The sectors of a disc all of which passed a commit's checks: where each lies, and when it holds given bytes.
use mathlib.Core.Bool.{Bool, true, false}
use mathlib.Core.List.{List}
use mathlib.Core.Logic.{◌≢◌, ⊎_elim}
use mathlib.Core.Option.{Option}
use mathlib.Core.Path.{◌≡◌, refl, sym, ap, ◌∙◌}
use Prim.Native.Nat.{ℕ, ◌+◌, ◌≤◌, ◌<◌}
use native.Mathlib.Omega.{arith}
use lib.ListN.{length}
use Rattle.std.specs.Prelude.{Some, None}
use Rattle.fields.specs.Bytes.{part, equal}
use Rattle.fields.proofs.Overwrite.{length_part}
use Rattle.fields.proofs.Equal.{equal-true}
use Rattle.fields.proofs.Compare.{compare-start}
use Rattle.format.specs.declared.Place.{Place}
use Rattle.format.specs.declared.Pointer.{Pointer}
use Rattle.format.specs.Tests.{◌and◌, choose}
use Rattle.format.specs.Layouts.{index_offset, entries}
use Rattle.format.specs.Opening.{Opened}
use Rattle.format.specs.Reading.{not_written, pointer_at, place_of, item_bytes}
use Rattle.format.specs.Committing.{sectors_verdict, holds_sector}
use Rattle.format.proofs.Tests.{on-or-off, off_rest, choose-true, choose-false}
use Rattle.format.proofs.Refusals.{first_refusal-iff}
use Rattle.format.proofs.Checks.{PointerOk, SectorOk, address-ok, item-inside}
use Rattle.opening.specs.Answers.{PointsTo}
use Rattle.search.specs.Found.{Checked, slot_at}
use Rattle.search.proofs.First.{Searching, Comparing}

-- a written address has a good sector
pub sector-good : (img : List ℕ) (t : Opened) (a : ℕ) → Checked img t → a < t.count → not_written img t a ≡ false
    → SectorOk img (entries img (index_offset img)) t a
unfolding sectors_verdict
sector-good img t a k h w =
    off_rest w
    ((first_refusal-iff t.count t.count 0 (omega arith) (λ n l. address-ok img (entries img (index_offset img)) t n)).0 k.1 a (omega arith) h)

-- ---- what an address has, by whether it is written
module _ (img : List ℕ) (t : Opened) (a : ℕ) where
  pub slot-empty : PointsTo img t a None → None ≡ slot_at img t a
  unfolding slot_at PointsTo
  slot-empty k = sym (choose-true _ _ _ k)

  module _ (p : Pointer) (k : PointsTo img t a (Some p)) where
    pub slot-item : Checked img t → a < t.count → PointerOk img p
    unfolding PointsTo
    slot-item c h = rw k.1 (sector-good img t a c h k.0).item

    pub slot-sector : (q : Place) → q ≡ place_of img p → Some q ≡ slot_at img t a
    unfolding slot_at PointsTo
    slot-sector q f = ap Some f ∙ rw k.1 (sym (choose-false _ _ _ k.0))

is-empty : (b : Bool) (q : Place) → None ≡ choose b None (Some q) → b ≡ true
unfolding choose
is-empty true q e = refl
is-empty false q e = let z : ◌≡◌ {A = ℕ} 0 1 = cc in absurd (omega arith)

is-sector : (b : Bool) (p q : Place) → Some p ≡ choose b None (Some q) → (b ≡ false) × (q ≡ p)
unfolding choose
is-sector true p q e = let z : ◌≡◌ {A = ℕ} 0 1 = cc in absurd (omega arith)
is-sector false p q e = (refl, cc)

module _ (img : List ℕ) (t : Opened) (a : ℕ) where
  pub slot-gap : None ≡ slot_at img t a → not_written img t a ≡ true
  unfolding slot_at
  slot-gap e = is-empty _ _ e

  module _ (p : Place) (e : Some p ≡ slot_at img t a) where
    pub slot-written : not_written img t a ≡ false
    unfolding slot_at
    slot-written = (is-sector _ _ _ e).0

    pub slot-place : place_of img (pointer_at img t a) ≡ p
    unfolding slot_at
    slot-place = (is-sector _ _ _ e).1

    pub slot-inside : Checked img t → a < t.count → p.start.0 + p.size ≤ length img
    unfolding place_of
    slot-inside k h =
        let good = (sector-good img t a k h slot-written).item in
        rw (← slot-place) (omega (arith, item-inside img _ _ good, good.block.fits))

module _ (img : List ℕ) (t : Opened) (sector : List ℕ) (a : ℕ) where
  pub empty-other : None ≡ slot_at img t a → holds_sector img t sector a ≡ false
  unfolding holds_sector ◌and◌
  empty-other e = rw (slot-gap img t a e)

  module _ (p : Place) (k : Checked img t) (h : a < t.count) (e : Some p ≡ slot_at img t a) where
    inside : p.start.0 + p.size ≤ length img
    inside = slot-inside img t a p e k h

    holds : holds_sector img t sector a ≡ equal (part img p.start.0 p.size) sector
    unfolding holds_sector item_bytes ◌and◌
    holds = rw (slot-written img t a p e, slot-place img t a p e)

    pub size-other : p.size ≢ length sector → holds_sector img t sector a ≡ false
    size-other n =
        ⊎_elim (λ y. absurd (n (sym (length_part img _ _ inside) ∙ ap length (equal-true _ _ (sym holds ∙ y))))) (λ x. x)
        (on-or-off (holds_sector img t sector a))

    pub size_same : {goal : Option ℕ} → Searching (holds_sector img t sector) t.count goal a → p.size ≡ length sector
        → Comparing (holds_sector img t sector) t.count goal img sector a p.start.0 0
    size_same s n =
        record {
          searching = s;
          below = h;
          inside = omega (arith, inside);
          most = omega arith;
          test = compare-start img p.start.0 sector ∙ sym (rw n at holds);
        }
