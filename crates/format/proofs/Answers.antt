-- The answers of the public calls: what one call answers fixes what the others do.
use mathlib.Core.List.{List}
use mathlib.Core.Path.{◌≡◌, sym, ap, ◌∙◌}
use Prim.Native.Nat.{ℕ}
use lib.IntN.{ℤ}
use Rattle.format.specs.Refusals.{Verdict}
use Rattle.std.specs.Prelude.{Ok, Err}
use Rattle.format.specs.declared.Refusal.{Refusal}
use Rattle.format.specs.Opening.{Opened, opening, range_of, sector_count}
use Rattle.format.specs.Reading.{read_verdict, locate}
use Rattle.format.specs.Writing.{outcome}
use Rattle.format.specs.Answers.{answered}
use Rattle.format.proofs.Refusals.{answer-passes, answer-refuses, answer-accepted, answer-refused, then-refuses}

-- ---- what a call that writes leaves, by its verdict
module _ {A : Type 0} (buffer : List ℕ) {v : Verdict} where
  pub outcome-stops : (p : A) (new : List ℕ) {r : Refusal} → Err r ≡ v → answered (Err r) buffer ≡ outcome buffer v p new
  unfolding answered outcome
  outcome-stops p new e = rw (← e)

  pub outcome-done : {p q : A} {new after : List ℕ} → Ok tt ≡ v → q ≡ p → after ≡ new → answered (Ok q) after ≡ outcome buffer v p new
  unfolding answered outcome
  outcome-done e f g = rw (← e, f, g)

-- ---- by what opening answers
module _ (img : List ℕ) where
  pub count-refused : (r : Refusal) → Err r ≡ opening img → Err r ≡ sector_count img
  unfolding opening sector_count
  count-refused r e = sym (answer-refuses _ _ r (answer-refused _ _ r (sym e)))

  pub count-opened : (t : Opened) → Ok t ≡ opening img → Ok (range_of t) ≡ sector_count img
  unfolding opening sector_count
  count-opened t e =
      let q = answer-accepted _ _ t (sym e) in
      sym (answer-passes _ _ q.0 ∙ ap (λ (u : Opened). Ok (range_of u)) q.1)

  pub locate-unopened : (r : Refusal) (a : ℤ) → Err r ≡ opening img → Err r ≡ locate img a
  unfolding opening locate read_verdict
  locate-unopened r a e = sym (answer-refuses _ _ r (then-refuses _ _ r (answer-refused _ _ r (sym e))))
