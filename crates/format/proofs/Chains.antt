-- How a chain of early returns in code meets a chain of checks in a definition: at each return `on` or `goes` for each check that was passed,
-- then `stop` or `stops` for the one that applies.
use mathlib.Core.Bool.{Bool, true, false}
use mathlib.Core.Path.{◌≡◌, refl, sym, ap, ◌∙◌}
use Rattle.std.specs.Prelude.{Ok, Err, IsErr, IsErrAnd}
use Rattle.std.proofs.lemmas.Result.{err_from_is_err_and}
use Rattle.format.specs.declared.Refusal.{Refusal}
use Rattle.format.specs.Refusals.{row, ◌then◌, Answer, answer, Verdict}
use Rattle.format.proofs.Refusals.{row-refuses, row-passes, then-refuses, then-rest, then-assoc, answer-passes, answer-refuses}

-- what a call answered, by what it ensures and by the branch that was taken on it
pub by : {A : Type 0} {x y z : A} → x ≡ y → x ≡ z → y ≡ z
by p q = sym p ∙ q

-- what `?` hands on is the refusal that it met; also where a definition says what the answer stands for
pub early-as : {A B : Type 0} (f : Answer A → B) {x : Answer A} {y : B} {r : Refusal}
    → IsErr x × IsErrAnd x (λ (q : Refusal). q ≡ r) → f (Err r) ≡ y → f x ≡ y
early-as f {x} h e = let p = err_from_is_err_and x h.1 in ap f (p.1 ∙ ap Err p.2) ∙ e

pub early : {A : Type 0} {x y : Answer A} {r : Refusal} → IsErr x × IsErrAnd x (λ (q : Refusal). q ≡ r) → Err r ≡ y → x ≡ y
early {A} h e = early-as (λ (x : Answer A). x) h e

-- ---- one check
pub stop : {b : Bool} {r : Refusal} (v : Verdict) → b ≡ true → Err r ≡ (row b r then v)
stop v e = sym (then-refuses _ v _ (row-refuses _ _ e))

pub on : {b : Bool} (r : Refusal) {v w : Verdict} → b ≡ false → w ≡ v → w ≡ (row b r then v)
on r e h = h ∙ sym (then-rest _ _ (row-passes _ r e))

pub stop-last : {b : Bool} {r : Refusal} → b ≡ true → Err r ≡ row b r
stop-last e = sym (row-refuses _ _ e)

pub on-last : {b : Bool} (r : Refusal) → b ≡ false → Ok tt ≡ row b r
on-last r e = sym (row-passes _ r e)

-- ---- a chain that another function answered
pub stops : {u : Verdict} (v : Verdict) {r : Refusal} → Err r ≡ u → Err r ≡ (u then v)
stops v e = sym (then-refuses _ v _ (sym e))

pub goes : {u v w : Verdict} → Ok tt ≡ u → w ≡ v → w ≡ (u then v)
goes e h = h ∙ sym (then-rest _ _ (sym e))

-- the same of two chains that one function answered together
pub stops-both : (u v w : Verdict) {r : Refusal} → Err r ≡ (u then v) → Err r ≡ (u then (v then w))
stops-both u v w e = stops w e ∙ then-assoc u v w

-- a chain whose last check passes
pub ends : (v : Verdict) {w : Verdict} → Ok tt ≡ w → v ≡ (v then w)
unfolding ◌then◌
ends (Ok tt) e = e
ends (Err r) e = refl

-- ---- answers
module _ {A : Type 0} where
  pub refuses : {v : Verdict} {r : Refusal} (x : A) → Err r ≡ v → Err r ≡ answer v x
  refuses x e = sym (answer-refuses _ x _ (sym e))

  pub accepts : {v : Verdict} {x y : A} → Ok tt ≡ v → y ≡ x → Ok y ≡ answer v x
  accepts e h = ap Ok h ∙ sym (answer-passes _ _ (sym e))

  -- the rest of a chain, answered by another function
  pub answers : {u : Verdict} (v : Verdict) (x : A) {w : Answer A} → Ok tt ≡ u → w ≡ answer v x → w ≡ answer (u then v) x
  answers v x e h = h ∙ ap (λ (z : Verdict). answer z x) (sym (then-rest _ v (sym e)))

  pub answers-both : (u v w : Verdict) (x : A) {z : Answer A} → Ok tt ≡ (u then v) → z ≡ answer w x → z ≡ answer (u then (v then w)) x
  answers-both u v w x e h = answers w x e h ∙ ap (λ (y : Verdict). answer y x) (then-assoc u v w)
