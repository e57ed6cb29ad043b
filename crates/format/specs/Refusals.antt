-- Refusals. "A number is given exactly when its check is the first in the call's order that applies; a call to which none applies is accepted."
-- 1/13: "A refusal now returns a byte offset in its image beside its number". Each row says both; `PlaceFor` in Demands is 1/13's list of the places.
use Rattle.std.specs.Prelude.{Bool, true, false, ℕ, zero, suc, Result, Ok, Err}
use Rattle.format.specs.declared.Refusal.{Refusal}

-- by this number, at this place
abbrev pub refusal : ℕ → ℕ → Refusal
refusal number place = record { number = number; place = record { 0 = place } }

-- what a check, or a chain of checks, comes to: it passes, or it refuses
abbrev pub Verdict : Type 0
Verdict = Result Unit Refusal

-- one check: its refusal where its test applies
unfoldable pub row : Bool → Refusal → Verdict
row true r = Err r
row false r = Ok tt

-- two checks, or two chains of checks, in this order: the first refusal
infixr 20 ◌then◌
unfoldable pub ◌then◌ : Verdict → Verdict → Verdict
Ok _ then w = w
Err r then w = Err r

-- the first refusal among the k numbers from i on, each with a verdict of its own
unfoldable pub first_refusal : (ℕ → Verdict) → ℕ → ℕ → Verdict
first_refusal f zero i = Ok tt
first_refusal f (suc k) i = f i then first_refusal f k (suc i)

-- what a call answers: a value, or its refusal
abbrev pub Answer : Type 0 → Type 0
Answer A = Result A Refusal

-- the value where the verdict passes
unfoldable pub answer : {A : Type 0} → Verdict → A → Answer A
answer (Ok _) a = Ok a
answer (Err r) a = Err r
