-- Chains of checks: what it takes to pass, and what the first refusal is.
use Prim.{Unit, tt}
use mathlib.Core.Bool.{Bool, true, false, true≢false}
use mathlib.Core.Logic.Iff
use mathlib.Core.Logic.{◌≢◌, ◌⊎◌, inl, inr, ⊎_elim, ◌↔◌}
use mathlib.Core.Path.{◌≡◌, refl, sym, ap, ◌∙◌, subst}
use Prim.Native.Nat.{ℕ, zero, suc, ◌+◌, ◌≤◌, ◌<◌}
use native.Mathlib.Nat.{eq-or-lt_of_le}
use native.Mathlib.Omega.{arith}
use Rattle.std.specs.Prelude.{Ok, Err}
use Rattle.format.specs.declared.Refusal.{Refusal}
use Rattle.format.specs.Refusals.{row, ◌then◌, first_refusal, answer, Verdict}

-- ---- passing
pub not-passes : {r : Refusal} → ◌≢◌ {A = Verdict} (Err r) (Ok tt)
not-passes h = let z : ◌≡◌ {A = ℕ} 0 1 = cc in absurd (omega arith)

not-refuses : {r : Refusal} → ◌≢◌ {A = Verdict} (Ok tt) (Err r)
not-refuses h = not-passes (sym h)

pub passes-or : (v : Verdict) → (v ≡ Ok tt) ⊎ (v ≢ Ok tt)
passes-or (Ok tt) = inl refl
passes-or (Err r) = inr not-passes

pub row-iff : {P : Type 0} {b : Bool} (r : Refusal) → (b ≡ false) ↔ P → (row b r ≡ Ok tt) ↔ P
unfolding row
row-iff {b = true} r p = (λ h. absurd (not-passes h), λ k. absurd (true≢false (p.1 k)))
row-iff {b = false} r p = (λ h. p.0 refl, λ k. refl)

pub then-iff : {P Q : Type 0} {v w : Verdict} → (v ≡ Ok tt) ↔ P → (w ≡ Ok tt) ↔ Q → ((v then w) ≡ Ok tt) ↔ (P × Q)
unfolding ◌then◌
then-iff {v = Ok tt} p q = (λ h. (p.0 refl, q.0 h), λ k. q.1 k.1)
then-iff {v = Err r} p q = (λ h. absurd (not-passes h), λ k. p.1 k.0)

pub first_refusal-iff : {P : ℕ → Type 0} {f : ℕ → Verdict} (n k i : ℕ) → i + k ≡ n → ((a : ℕ) → a < n → (f a ≡ Ok tt) ↔ P a)
    → (first_refusal f k i ≡ Ok tt) ↔ ((a : ℕ) → i ≤ a → a < n → P a)
unfolding first_refusal
first_refusal-iff n zero i e p = (λ h a l b. absurd (omega arith), λ h. refl)
first_refusal-iff {P} n (suc k) i e p =
    let both = then-iff (p i (omega arith)) (first_refusal-iff n k (suc i) (omega arith) p) in (
      (λ h a l b. ⊎_elim (λ q. subst P q (both.0 h).0) (λ m. (both.0 h).1 a m b) (eq-or-lt_of_le l)),
      λ s. both.1 (s i (omega arith) (omega arith), λ a l b. s a (omega arith) b),
    )

pub first_refusal-same : (f g : ℕ → Verdict) (k i : ℕ) → ((a : ℕ) → i ≤ a → a < i + k → f a ≡ g a) → first_refusal f k i ≡ first_refusal g k i
unfolding first_refusal
first_refusal-same f g zero i h = refl
first_refusal-same f g (suc k) i h = rw (h i (omega arith) (omega arith), first_refusal-same f g k (suc i) (λ a l b. h a (omega arith) (omega arith))) refl

-- ---- the rest of a chain, and none of it
pub then-rest : (v w : Verdict) → v ≡ Ok tt → (v then w) ≡ w
unfolding ◌then◌
then-rest v w p = rw p

pub then-stays : (v w : Verdict) → v ≢ Ok tt → (v then w) ≡ v
unfolding ◌then◌
then-stays (Ok tt) w h = absurd (h refl)
then-stays (Err r) w h = refl

-- chains of chains
pub then-assoc : (u v w : Verdict) → ((u then v) then w) ≡ (u then (v then w))
unfolding ◌then◌
then-assoc (Ok tt) v w = refl
then-assoc (Err r) v w = refl

-- ---- the first refusal
pub row-refuses : (b : Bool) (r : Refusal) → b ≡ true → row b r ≡ Err r
unfolding row
row-refuses b r e = rw e

pub row-passes : (b : Bool) (r : Refusal) → b ≡ false → row b r ≡ Ok tt
row-passes b r e = (row-iff r Iff.rfl).1 e

pub then-refuses : (v w : Verdict) (r : Refusal) → v ≡ Err r → (v then w) ≡ Err r
unfolding ◌then◌
then-refuses v w r p = rw p

-- by the first number whose verdict is a refusal
pub first_refusal-at : (f : ℕ → Verdict) (k i n : ℕ) (r : Refusal) → i ≤ n → n < i + k → ((a : ℕ) → i ≤ a → a < n → f a ≡ Ok tt) → f n ≡ Err r
    → first_refusal f k i ≡ Err r
unfolding first_refusal
first_refusal-at f zero i n r l h b e = absurd (omega arith)
first_refusal-at f (suc k) i n r l h b e =
    ⊎_elim (λ q. then-refuses (f i) _ r (ap f q ∙ e))
    (λ m. then-rest _ _ (b i (omega arith) m) ∙ first_refusal-at f k (suc i) n r m (omega arith) (λ a p q. b a (omega arith) q) e) (eq-or-lt_of_le l)

-- ---- what a refusal says
-- what holds of the number and the place that a verdict refuses with, if it does
unfoldable pub Says : (ℕ → ℕ → Type 0) → Verdict → Type 0
Says P (Ok tt) = Unit {0}
Says P (Err r) = P r.number r.place.0

module _ (P : ℕ → ℕ → Type 0) where
  pub row-says : (b : Bool) (r : Refusal) → P r.number r.place.0 → Says P (row b r)
  unfolding row Says
  row-says true r p = p
  row-says false r p = tt

  pub then-says : (v w : Verdict) → Says P v → Says P w → Says P (v then w)
  unfolding ◌then◌ Says
  then-says (Ok tt) w p q = q
  then-says (Err r) w p q = p

  -- a row that does not apply
  pub off-says : (b : Bool) (r : Refusal) → b ≡ false → Says P (row b r)
  unfolding row Says
  off-says true r e = absurd (true≢false e)
  off-says false r e = tt

  -- what is reached only where the checks before it pass
  pub after-says : (v w : Verdict) → Says P v → (v ≡ Ok tt → Says P w) → Says P (v then w)
  unfolding ◌then◌ Says
  after-says (Ok tt) w p q = q refl
  after-says (Err r) w p q = p

  pub first_says : (f : ℕ → Verdict) (n k i : ℕ) → i + k ≡ n → ((a : ℕ) → a < n → Says P (f a)) → Says P (first_refusal f k i)
  unfolding first_refusal Says
  first_says f n zero i e p = tt
  first_says f n (suc k) i e p = then-says (f i) _ (p i (omega arith)) (first_says f n k (suc i) (omega arith) p)

  pub says-refused : (v : Verdict) (r : Refusal) → Says P v → v ≡ Err r → P r.number r.place.0
  unfolding Says
  says-refused v r p e = subst (Says P) e p

pub says-also : {P Q : ℕ → ℕ → Type 0} (v : Verdict) → ((n p : ℕ) → P n p → Q n p) → Says P v → Says Q v
unfolding Says
says-also (Ok tt) f s = tt
says-also (Err r) f s = f _ _ s

-- a verdict refuses with this number
unfoldable pub Gives : ℕ → Verdict → Type 0
Gives n (Ok tt) = ⊥
Gives n (Err r) = r.number ≡ n

pub gives : (v : Verdict) {r : Refusal} → v ≡ Err r → Gives r.number v
unfolding Gives
gives v {r} e = rw e

pub says-not : (n : ℕ) (v : Verdict) → Says (λ m p. m ≢ n) v → ¬ Gives n v
unfolding Gives Says
says-not n (Ok tt) p = λ x. x
says-not n (Err r) p = p

-- ---- where in a chain a number is given
pub row_gives : (b : Bool) (r : Refusal) → (row b r ≡ Err r) ↔ (b ≡ true)
unfolding row
row_gives true r = (λ h. refl, λ h. refl)
row_gives false r = (λ h. absurd (not-refuses h), λ h. absurd (true≢false (sym h)))

module _ (v w : Verdict) (r : Refusal) where
  -- past the checks that don't give it
  pub then-gives : ¬ Gives r.number v → ((v then w) ≡ Err r) ↔ ((v ≡ Ok tt) × (w ≡ Err r))
  then-gives n = (forth, λ k. then-rest v w k.0 ∙ k.1)
    where
      forth : (v then w) ≡ Err r → (v ≡ Ok tt) × (w ≡ Err r)
      forth h = ⊎_elim (λ p. (p, sym (then-rest v w p) ∙ h)) (λ p. absurd (n (gives v (sym (then-stays v w p) ∙ h)))) (passes-or v)

  -- before the checks that don't
  pub gives_then : ¬ Gives r.number w → ((v then w) ≡ Err r) ↔ (v ≡ Err r)
  gives_then n = (forth, then-refuses v w r)
    where
      forth : (v then w) ≡ Err r → v ≡ Err r
      forth h = ⊎_elim (λ p. absurd (n (gives w (sym (then-rest v w p) ∙ h)))) (λ p. sym (then-stays v w p) ∙ h) (passes-or v)

-- ---- answers
pub answer-passes : {A : Type 0} (v : Verdict) (a : A) → v ≡ Ok tt → answer v a ≡ Ok a
unfolding answer
answer-passes v a e = rw e

pub answer-refuses : {A : Type 0} (v : Verdict) (a : A) (r : Refusal) → v ≡ Err r → answer v a ≡ Err r
unfolding answer
answer-refuses v a r e = rw e

pub answer-accepted : {A : Type 0} (v : Verdict) (a b : A) → answer v a ≡ Ok b → (v ≡ Ok tt) × (a ≡ b)
unfolding answer
answer-accepted (Ok tt) a b e = (refl, cc)
answer-accepted (Err r) a b e = let z : ◌≡◌ {A = ℕ} 0 1 = cc in absurd (omega arith)

pub answer-refused : {A : Type 0} (v : Verdict) (a : A) (r : Refusal) → answer v a ≡ Err r → v ≡ Err r
unfolding answer
answer-refused (Ok tt) a r e = let z : ◌≡◌ {A = ℕ} 0 1 = cc in absurd (omega arith)
answer-refused (Err q) a r e = cc
