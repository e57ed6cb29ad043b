-- What each test says: its `-on` reads a fact off a yes, its `-true` shows a yes from a fact, its `-iff` says exactly when it is a no.
use Prim.{tt}
use mathlib.Core.Bool.{Bool, true, false, not, true≢false}
use mathlib.Core.Logic.Iff
use mathlib.Core.Logic.{◌≢◌, ◌⊎◌, ⊎_elim, inl, inr, ◌↔◌}
use mathlib.Core.Path.{◌≡◌, refl, sym, ap, ◌∙◌}
use Prim.Native.Nat.{ℕ, ◌≤◌, ◌<◌}
use lib.Dec.{T}
use borrow.Author.Tests.{ltb-true, ltb-false, leb-false, eqb-true, eqb-false, not-false, lt-ltb, le-ltb, le-leb, lt-leb, eq-eqb, ne_eqb}
use Rattle.std.specs.Prelude.{nat_eq, nat_lt, nat_le}
use Rattle.format.specs.Tests.{same, differs, below, at_least, ◌or◌, ◌and◌, choose}

pub on-or-off : (b : Bool) → (b ≡ true) ⊎ (b ≡ false)
on-or-off true = inl refl
on-or-off false = inr refl

-- a test says yes, as the library's order of signed numbers has it
pub on-iff : (b : Bool) → (b ≡ true) ↔ T b
on-iff true = (λ h. tt, λ h. refl)
on-iff false = (λ h. absurd (true≢false (sym h)), λ h. absurd h)

-- a test does not say both
pub never : {b : Bool} → b ≡ true → b ≡ false → ⊥
never p q = true≢false (sym p ∙ q)

-- where it says no, what else may be so is so
pub off_rest : {b : Bool} {P : Type 0} → b ≡ false → (b ≡ true) ⊎ P → P
off_rest e = ⊎_elim (λ q. absurd (never q e)) (λ q. q)

pub not_iff : {b : Bool} → (not b ≡ false) ↔ (b ≡ true)
not_iff = (not-false _, ap not)

-- ---- numbers
module _ (a b : ℕ) where
  pub below_on : below a b ≡ true → a < b
  unfolding below
  below_on h = ltb-true a b h

  pub below_true : a < b → below a b ≡ true
  unfolding below
  below_true h = lt-ltb a b h

  pub at_least-true : b ≤ a → at_least a b ≡ true
  unfolding at_least
  at_least-true h = le-leb b a h

  pub same-on : same a b ≡ true → a ≡ b
  unfolding same
  same-on h = eqb-true a b h

  pub same_true : a ≡ b → same a b ≡ true
  unfolding same
  same_true h = eq-eqb a b h

  pub differs_true : a ≢ b → differs a b ≡ true
  unfolding differs
  differs_true h = ap not (ne_eqb a b h)

  -- a no from a fact
  pub below_false : b ≤ a → below a b ≡ false
  unfolding below
  below_false h = le-ltb a b h

  pub at_least-false : a < b → at_least a b ≡ false
  unfolding at_least
  at_least-false h = lt-leb b a h

  pub same_false : a ≢ b → same a b ≡ false
  unfolding same
  same_false h = ne_eqb a b h

  pub differs_false : a ≡ b → differs a b ≡ false
  unfolding differs
  differs_false h = ap not (eq-eqb a b h)

  -- the code's tests
  pub below_is : below a b ≡ nat_lt a b
  unfolding below
  below_is = refl

  pub at_least_is : at_least a b ≡ nat_le b a
  unfolding at_least
  at_least_is = refl

  pub same_is : same a b ≡ nat_eq a b
  unfolding same
  same_is = refl

  pub differs_is : differs a b ≡ not (nat_eq a b)
  unfolding differs
  differs_is = refl

module _ {a b : ℕ} where
  pub below-iff : (below a b ≡ false) ↔ (b ≤ a)
  unfolding below
  below-iff = (ltb-false a b, le-ltb a b)

  pub at_least-iff : (at_least a b ≡ false) ↔ (a < b)
  unfolding at_least
  at_least-iff = (leb-false b a, lt-leb b a)

  pub same-iff : (same a b ≡ false) ↔ (a ≢ b)
  unfolding same
  same-iff = (eqb-false a b, ne_eqb a b)

  pub differs-iff : (differs a b ≡ false) ↔ (a ≡ b)
  unfolding differs
  differs-iff = Iff.trans not_iff (eqb-true a b, eq-eqb a b)

-- ---- joined tests
module _ {P Q : Type 0} where
  pub or-iff : {a b : Bool} → (a ≡ false) ↔ P → (b ≡ false) ↔ Q → ((a or b) ≡ false) ↔ (P × Q)
  unfolding ◌or◌
  or-iff {a = true} p q = (λ h. absurd (true≢false h), λ k. p.1 k.0)
  or-iff {a = false} p q = (λ h. (p.0 refl, q.0 h), λ k. q.1 k.1)

  pub and-iff : {a b : Bool} → (a ≡ false) ↔ P → (b ≡ false) ↔ Q → ((a and b) ≡ false) ↔ (P ⊎ Q)
  unfolding ◌and◌
  and-iff {a = true} p q = (λ h. inr (q.0 h), ⊎_elim (λ x. absurd (true≢false (p.1 x))) q.1)
  and-iff {a = false} p q = (λ h. inl (p.0 refl), λ k. refl)

pub or-on : (a b : Bool) → (a or b) ≡ true → (a ≡ true) ⊎ (b ≡ true)
unfolding ◌or◌
or-on true b h = inl refl
or-on false b h = inr h

pub or-true-left : (a b : Bool) → a ≡ true → (a or b) ≡ true
unfolding ◌or◌
or-true-left a b p = rw p

pub or_true_right : (a b : Bool) → b ≡ true → (a or b) ≡ true
unfolding ◌or◌
or_true_right true b p = refl
or_true_right false b p = p

-- where the first says no, the rest decides
pub or-rest : {a : Bool} (b : Bool) → a ≡ false → (a or b) ≡ b
unfolding ◌or◌
or-rest b p = rw p

pub or_left : {b : Bool} (a : Bool) → b ≡ false → (a or b) ≡ a
unfolding ◌or◌
or_left true p = refl
or_left false p = p

pub and-on : (a b : Bool) → (a and b) ≡ true → (a ≡ true) × (b ≡ true)
unfolding ◌and◌
and-on true b h = (refl, h)
and-on false b h = absurd (never h refl)

pub and-true : (a b : Bool) → a ≡ true → b ≡ true → (a and b) ≡ true
unfolding ◌and◌
and-true a b p q = rw (p, q)

pub and-rest : {a : Bool} (b : Bool) → a ≡ true → (a and b) ≡ b
unfolding ◌and◌
and-rest b p = rw p

pub and-left : {b : Bool} (a : Bool) → b ≡ true → (a and b) ≡ a
unfolding ◌and◌
and-left true p = p
and-left false p = refl

pub and-false-left : (a b : Bool) → a ≡ false → (a and b) ≡ false
unfolding ◌and◌
and-false-left a b p = rw p

pub and_false_right : (a b : Bool) → b ≡ false → (a and b) ≡ false
unfolding ◌and◌
and_false_right true b p = p
and_false_right false b p = refl

-- what tests joined by `||` or `&&` in the code answer, for a function's proof to find
pub ruleset either_test = (same_is, differs_is, below_is, at_least_is, same_true, same_false, differs_true, differs_false, below_true, below_false, at_least-true, at_least-false, or-true-left, or_true_right, or-rest)

pub ruleset each_test = (same_is, differs_is, below_is, at_least_is, same_true, same_false, differs_true, differs_false, below_true, below_false, at_least-true, at_least-false, and-false-left, and_false_right, and-rest, and-left)

-- ---- a choice
pub choose-true : {A : Type 0} (b : Bool) (x y : A) → b ≡ true → choose b x y ≡ x
unfolding choose
choose-true b x y e = rw e

pub choose-false : {A : Type 0} (b : Bool) (x y : A) → b ≡ false → choose b x y ≡ y
unfolding choose
choose-false b x y e = rw e

-- what is so of both is so of the chosen one
pub choose-cases : {A : Type 0} (P : A → Type 0) (b : Bool) (x y : A) → (b ≡ true → P x) → (b ≡ false → P y) → P (choose b x y)
unfolding choose
choose-cases P true x y f g = f refl
choose-cases P false x y f g = g refl
