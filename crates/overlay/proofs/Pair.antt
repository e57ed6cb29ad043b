-- What the calls on a pair answer, by what locating in its images answers.
use mathlib.Core.List.{List, []}
use mathlib.Core.Logic.{◌≢◌, ⊎_elim}
use mathlib.Core.Path.{◌≡◌, refl, sym, ap, ◌∙◌}
use Prim.Native.Nat.{ℕ, zero, suc, ◌+◌, ◌≤◌}
use native.Mathlib.Omega.{arith}
use lib.ListN.{length}
use lib.IntN.{ℤ}
use Rattle.std.specs.Prelude.{Ok, Err, IsErrAnd, MatchResult}
use Rattle.fields.specs.Bytes.{part}
use Rattle.format.specs.declared.Place.{Place}
use Rattle.format.specs.declared.Refusal.{Refusal}
use Rattle.format.specs.declared.Sourced.{Sourced}
use Rattle.format.specs.Refusals.{Answer}
use Rattle.format.specs.Reading.{locate}
use Rattle.format.specs.Answers.{bytes_read}
use Rattle.format.specs.Overlaying.{parent_refusal, from_parent, over, read_over, in_image, locate_over, source_over}
use Rattle.format.specs.Demands.{image_by}
use Rattle.format.proofs.Refusing.{demand-1-refusals}
use Rattle.format.proofs.Overlaying.{over-child, over-other, over-parent}
use Rattle.format.proofs.Overlaid.{over-agrees}

-- ---- the parent
pub small : (img : List ℕ) (a : ℤ) (r : Refusal) → Err r ≡ locate img a → r.number ≤ 73
small img a r e =
    ⊎_elim (⊎_elim (λ f. omega (arith, f)) (λ f. omega (arith, f))) (⊎_elim (λ f. omega (arith, f)) (λ f. omega (arith, f))) (demand-1-refusals.locating img a r (sym e)).0

-- its answer, with the refusal that the pair gives for its own
pub handed_on : (x y : Answer Place) → MatchResult x (λ (p : Place). y ≡ Ok p) (λ (r : Refusal). IsErrAnd y (λ (q : Refusal). q ≡ parent_refusal r))
    → in_image 1 y ≡ from_parent (in_image 1 x)
unfolding from_parent in_image
handed_on (Ok p) y e = ap (in_image 1) e
handed_on (Err r) (Ok p) e = absurd e
handed_on (Err r) (Err q) e = ap Err e

-- ---- the pair
module _ (child parent : List ℕ) (a : ℤ) where
  abbrev with : Answer Place → Answer Sourced
  with x = over (in_image 0 x) (in_image 1 (locate parent a))

  pub child-at : (p : Place) → Ok p ≡ locate child a → Ok (record { image = 0; place = p }) ≡ locate_over child parent a
  unfolding locate_over in_image
  child-at p e = sym (over-child _ (in_image 1 (locate parent a))) ∙ ap with e

  pub child-refused : (r : Refusal) → Err r ≡ locate child a → r.number ≢ 21 → Err r ≡ locate_over child parent a
  unfolding locate_over in_image
  child-refused r e d = sym (over-other r _ d) ∙ ap with e

  pub not_written_lem : (r : Refusal) → Err r ≡ locate child a → r.number ≡ 21 → (x : Answer Sourced) → x ≡ from_parent (in_image 1 (locate parent a)) → x ≡ locate_over child parent a
  unfolding locate_over in_image
  not_written_lem r e n x f = f ∙ sym (over-parent r _ n) ∙ ap with e

  -- which image
  pub is-of : (s : Sourced) → Ok s ≡ locate_over child parent a → Ok s.image ≡ source_over child parent a
  is-of s e = sym ((over-agrees child parent a).source s (sym e))

  pub is-refused : (r : Refusal) → Err r ≡ locate_over child parent a → Err r ≡ source_over child parent a
  is-refused r e = sym (((over-agrees child parent a).source_refuses r).1 (((over-agrees child parent a).refuses r).0 (sym e)))

  -- what is read
  pub reads_none : (r : Refusal) → Err r ≡ locate_over child parent a → [] ≡ bytes_read (read_over child parent a)
  unfolding bytes_read
  reads_none r e = sym (ap bytes_read (((over-agrees child parent a).refuses r).0 (sym e)))

  abbrev PartOf : List ℕ → Place → Type 0
  PartOf img p = (p.start.0 + p.size ≤ length img) × (part img p.start.0 p.size ≡ bytes_read (read_over child parent a))

  part_of : (s : Sourced) → Ok s ≡ locate_over child parent a → PartOf (image_by child parent s.image) s.place
  unfolding bytes_read
  part_of s e = ((over-agrees child parent a).inside s (sym e), sym (ap bytes_read ((over-agrees child parent a).bytes s (sym e))))

  pub of-child : (s : Sourced) → Ok s ≡ locate_over child parent a → s.image ≡ 0 → PartOf child s.place
  unfolding image_by
  of-child s e z = rw z at (part_of s e)

  other : (n : ℕ) → n ≢ 0 → image_by child parent n ≡ parent
  unfolding image_by
  other zero h = absurd (h refl)
  other (suc n) h = refl

  pub of-parent : (s : Sourced) → Ok s ≡ locate_over child parent a → s.image ≢ 0 → PartOf parent s.place
  of-parent s e z = rw (other s.image z) at (part_of s e)
