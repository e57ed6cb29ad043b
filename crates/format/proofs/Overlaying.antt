-- A disc over its parent: what the three calls answer, by one verdict of the two images' own.
use Prim.{tt}
use mathlib.Core.Bool.{Bool, true, false}
use mathlib.Core.List.{List}
use mathlib.Core.Logic.{◌≢◌, ◌⊎◌, inl, inr, ⊎_elim}
use mathlib.Core.Path.{◌≡◌, refl, sym, ap, ◌∙◌}
use Prim.Native.Nat.{ℕ, ◌+◌}
use native.Mathlib.Omega.{arith}
use lib.IntN.{ℤ}
use Rattle.std.specs.Prelude.{Ok, Err}
use Rattle.format.specs.declared.Place.{Place}
use Rattle.format.specs.declared.Refusal.{Refusal}
use Rattle.format.specs.declared.Sourced.{Sourced}
use Rattle.format.specs.Tests.{same, choose}
use Rattle.format.specs.Refusals.{refusal, Answer, answer, Verdict}
use Rattle.format.specs.Layouts.{index_offset}
use Rattle.format.specs.Opening.{opened}
use Rattle.format.specs.Reading.{pointer_of, place_of, item_bytes, read_verdict, read_at, read, locate}
use Rattle.format.specs.Overlaying.{parent_refusal, from_parent, over, disc_over, read_over, in_image, locate_over}
use Rattle.format.proofs.Tests.{on-or-off, same-iff, same_true, same-on, or-iff, or-true-left, or_true_right, choose-true, choose-false, choose-cases}
use Rattle.format.proofs.Refusals.{not-passes, Says}

-- ---- the parent's refusals
pub parent-20 : (r : Refusal) → r.number ≡ 20 → parent_refusal r ≡ refusal 21 0
unfolding parent_refusal
parent-20 r e = choose-true _ _ _ (or-true-left _ _ (same_true _ _ e))

pub parent-21 : (r : Refusal) → r.number ≡ 21 → parent_refusal r ≡ refusal 21 0
unfolding parent_refusal
parent-21 r e = choose-true _ _ _ (or_true_right _ _ (same_true _ _ e))

pub parent-other : (r : Refusal) → r.number ≢ 20 → r.number ≢ 21 → parent_refusal r ≡ refusal (100 + r.number) r.place.0
unfolding parent_refusal
parent-other r d e = choose-false _ _ _ ((or-iff same-iff same-iff).1 (d, e))

-- ---- what the pair answers, by what the two answer
module _ {A : Type 0} where
  pub over-child : (a : A) (parent : Answer A) → over (Ok a) parent ≡ Ok a
  unfolding over
  over-child a parent = refl

  pub over-other : (r : Refusal) (parent : Answer A) → r.number ≢ 21 → over (Err r) parent ≡ Err r
  unfolding over
  over-other r parent n = choose-false _ _ _ (same-iff.1 n)

  pub over-parent : (r : Refusal) (parent : Answer A) → r.number ≡ 21 → over (Err r) parent ≡ from_parent parent
  unfolding over
  over-parent r parent e = choose-true _ _ _ (same_true _ _ e)

  parent-accepted : (parent : Answer A) (a : A) → from_parent parent ≡ Ok a → parent ≡ Ok a
  unfolding from_parent
  parent-accepted (Ok b) a e = e
  parent-accepted (Err r) a e = let z : ◌≡◌ {A = ℕ} 0 1 = cc in absurd (omega arith)

  -- what it gives is what one of them gives
  pub over-accepted : (child parent : Answer A) (a : A) → over child parent ≡ Ok a → (child ≡ Ok a) ⊎ (parent ≡ Ok a)
  unfolding over
  over-accepted (Ok b) parent a e = inl e
  over-accepted (Err r) parent a e =
      ⊎_elim (λ h. inr (parent-accepted parent a (sym (choose-true _ _ _ h) ∙ e)))
      (λ h. let q : Err r ≡ Ok a = sym (choose-false _ _ _ h) ∙ e in let z : ◌≡◌ {A = ℕ} 0 1 = cc in absurd (omega arith))
      (on-or-off (same r.number 21))

-- ---- as a verdict
unfoldable pub parent_verdict : Verdict → Verdict
parent_verdict (Ok tt) = Ok tt
parent_verdict (Err r) = Err (parent_refusal r)

unfoldable pub over_verdict : Verdict → Verdict → Verdict
over_verdict (Ok tt) parent = Ok tt
over_verdict (Err r) parent = choose (same r.number 21) (parent_verdict parent) (Err r)

pub over-verdict-other : (r : Refusal) (parent : Verdict) → r.number ≢ 21 → over_verdict (Err r) parent ≡ Err r
unfolding over_verdict
over-verdict-other r parent n = choose-false _ _ _ (same-iff.1 n)

pub over-verdict-21 : (r : Refusal) (parent : Verdict) → r.number ≡ 21 → over_verdict (Err r) parent ≡ parent_verdict parent
unfolding over_verdict
over-verdict-21 r parent e = choose-true _ _ _ (same_true _ _ e)

parent-passes : (parent : Verdict) → parent_verdict parent ≡ Ok tt → parent ≡ Ok tt
unfolding parent_verdict
parent-passes (Ok tt) h = refl
parent-passes (Err r) h = absurd (not-passes h)

pub over-passes : (r : Refusal) (parent : Verdict) → over_verdict (Err r) parent ≡ Ok tt → (r.number ≡ 21) × (parent ≡ Ok tt)
over-passes r parent e =
    ⊎_elim (λ h. let n : r.number ≡ 21 = same-on _ _ h in (n, parent-passes parent (sym (over-verdict-21 r parent n) ∙ e)))
    (λ h. absurd (not-passes (sym (over-verdict-other r parent (same-iff.0 h)) ∙ e))) (on-or-off (same r.number 21))

-- what it says: the child's number, but for 21; the parent's with 100 added, but for 20 and 21; or 21
module _ (P : ℕ → ℕ → Type 0) (neither : P 21 0) where
  parent-says : (parent : Verdict) → Says (λ n p. n ≢ 20 → n ≢ 21 → P (100 + n) p) parent → Says P (parent_verdict parent)
  unfolding parent_verdict parent_refusal Says
  parent-says (Ok tt) k = tt
  parent-says (Err r) k =
      choose-cases (λ (q : Refusal). P q.number q.place.0) _ _ _ (λ h. neither) (λ h. let d = (or-iff same-iff same-iff).0 h in k d.0 d.1)

  pub over-says : (child parent : Verdict) → Says (λ n p. n ≢ 21 → P n p) child → Says (λ n p. n ≢ 20 → n ≢ 21 → P (100 + n) p) parent
      → Says P (over_verdict child parent)
  unfolding over_verdict Says
  over-says (Ok tt) parent c k = tt
  over-says (Err r) parent c k = choose-cases (Says P) _ _ _ (λ h. parent-says parent k) (λ h. c (same-iff.0 h))

-- the child's value where it passes, else the parent's
unfoldable pub chosen : {A : Type 0} → Verdict → A → A → A
chosen (Ok tt) child parent = child
chosen (Err r) child parent = parent

parent-answer : {A : Type 0} (w : Verdict) (b : A) → from_parent (answer w b) ≡ answer (parent_verdict w) b
unfolding from_parent answer parent_verdict
parent-answer (Ok tt) b = refl
parent-answer (Err r) b = refl

choose-answer : {A : Type 0} (c : Bool) (v w : Verdict) (b : A) → choose c (answer v b) (answer w b) ≡ answer (choose c v w) b
unfolding choose
choose-answer true v w b = refl
choose-answer false v w b = refl

over-answer : {A : Type 0} (v w : Verdict) (a b : A) → over (answer v a) (answer w b) ≡ answer (over_verdict v w) (chosen v a b)
unfolding over answer over_verdict chosen
over-answer (Ok tt) w a b = refl
over-answer (Err r) w a b =
    ap (λ (z : Answer _). choose (same r.number 21) z (Err r)) (parent-answer w b) ∙ choose-answer (same r.number 21) (parent_verdict w) (Err r) b

in_image_lem : (n : ℕ) (v : Verdict) (p : Place) → in_image n (answer v p) ≡ answer v (record { image = n; place = p })
unfolding in_image answer
in_image_lem n (Ok tt) p = refl
in_image_lem n (Err r) p = refl

-- ---- the calls go by it
abbrev pub read_by : List ℕ → ℤ → Verdict
read_by img a = read_verdict img (index_offset img) a

abbrev pub place_in : List ℕ → ℤ → Place
place_in img a = place_of img (pointer_of img (opened img (index_offset img)) a)

abbrev pub bytes_in : List ℕ → ℤ → List ℕ
bytes_in img a = item_bytes img (pointer_of img (opened img (index_offset img)) a)

module _ (child parent : List ℕ) (a : ℤ) where
  abbrev pub both_by : Verdict
  both_by = over_verdict (read_by child a) (read_by parent a)

  abbrev pub source_by : Sourced
  source_by = chosen (read_by child a) (record { image = 0; place = place_in child a }) (record { image = 1; place = place_in parent a })

  pub read-over : read_over child parent a ≡ answer both_by (chosen (read_by child a) (bytes_in child a) (bytes_in parent a))
  unfolding read_over disc_over read read_at
  read-over = over-answer (read_by child a) (read_by parent a) _ _

  pub locate-over : locate_over child parent a ≡ answer both_by source_by
  unfolding locate_over locate
  locate-over = (λ i. over (in_image_lem 0 (read_by child a) (place_in child a) i) (in_image_lem 1 (read_by parent a) (place_in parent a) i)) ∙ over-answer (read_by child a) (read_by parent a) _ _
