-- The first number that a check refuses.
use mathlib.Core.Logic.{⊎_elim}
use mathlib.Core.Path.{◌≡◌, refl, sym, ap, ◌∙◌}
use Prim.Native.Nat.{ℕ, zero, suc, ◌+◌, ◌≤◌, ◌<◌}
use native.Mathlib.Nat.{eq-or-lt_of_le}
use native.Mathlib.Omega.{arith}
use Rattle.std.specs.Prelude.{Ok, Err}
use Rattle.format.specs.declared.Refusal.{Refusal}
use Rattle.format.specs.Refusals.{◌then◌, first_refusal, Verdict}
use Rattle.format.proofs.Refusals.{not-passes, then-rest, then-stays}
use Rattle.checking.specs.declared.First.{First}
use Rattle.checking.specs.Checked.{IsFirst}

-- a first address, and none
pub first-at : (f : ℕ → Verdict) (n a : ℕ) (r : Refusal) → a < n → ((i : ℕ) → i < a → f i ≡ Ok tt) → f a ≡ Err r
    → IsFirst f n (record { number = record { 0 = a }; verdict = Err r })
first-at f n a r l b e = record { within = omega arith; before = b; here = λ k. (e, not-passes); none = λ z. absurd (omega arith) }

pub first-none : (f : ℕ → Verdict) (n a : ℕ) → a ≡ n → ((i : ℕ) → i < a → f i ≡ Ok tt)
    → IsFirst f n (record { number = record { 0 = a }; verdict = Ok tt })
first-none f n a e b = record { within = omega arith; before = b; here = λ k. absurd (omega arith); none = λ z. refl }

-- a check that says the same has the same first address
pub first-same : (f g : ℕ → Verdict) (n : ℕ) {r : First} → ((a : ℕ) → a < n → f a ≡ g a) → IsFirst f n r → IsFirst g n r
first-same f g n e p =
    record {
      within = p.within;
      before = λ a l. sym (e a (omega (arith, l, p.within))) ∙ p.before a l;
      here = λ l. (sym (e _ l) ∙ (p.here l).0, (p.here l).1);
      none = p.none;
    }

-- it gives the first refusal
module _ (f : ℕ → Verdict) (n : ℕ) (r : First) (p : IsFirst f n r) where
  from : (k i : ℕ) → i + k ≡ n → i ≤ r.number.0 → first_refusal f k i ≡ r.verdict
  unfolding first_refusal
  from zero i e l = let w = p.within in sym (p.none (omega arith))
  from (suc k) i e l = ⊎_elim stop (λ m. then-rest _ _ (p.before i m) ∙ from k (suc i) (omega arith) m) (eq-or-lt_of_le l)
    where
      stop : i ≡ r.number.0 → (f i then first_refusal f k (suc i)) ≡ r.verdict
      stop q =
          let (h, ne) = p.here (omega arith) in
          let v : f i ≡ r.verdict = ap f q ∙ h in
          then-stays _ _ (λ z. ne (sym v ∙ z)) ∙ v

  pub first-refusal : first_refusal f n 0 ≡ r.verdict
  first-refusal = from n 0 (omega arith) (omega arith)

-- by the checks before it
pub refused-at : (f : ℕ → Verdict) (n a : ℕ) (r : Refusal) → a < n → ((i : ℕ) → i < a → f i ≡ Ok tt) → f a ≡ Err r → first_refusal f n 0 ≡ Err r
refused-at f n a r l b e = first-refusal f n _ (first-at f n a r l b e)

pub refused_none : (f : ℕ → Verdict) (n : ℕ) → ((i : ℕ) → i < n → f i ≡ Ok tt) → first_refusal f n 0 ≡ Ok tt
refused_none f n b = first-refusal f n _ (first-none f n n refl b)
