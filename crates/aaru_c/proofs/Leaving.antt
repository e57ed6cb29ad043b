-- From the answer of a call that writes, and what its pointers then have, to what the C call leaves.
use mathlib.Core.List.{List}
use mathlib.Core.Path.{◌≡◌}
use Prim.Native.Nat.{ℕ}
use Rattle.format.specs.Refusals.{Answer}
use Rattle.format.specs.Writing.{Outcome}
use Rattle.format.specs.Answers.{answered}
use Rattle.aaru_c.specs.Returned.{Returned, returned, left}

pub leaves : {A : Type 0} {o : Outcome A} {n : Returned A} (values : A) (place : ℕ) (a : Answer A) {buffer : List ℕ} → n ≡ returned a values place → answered a buffer ≡ o
    → record { answer = n; buffer = buffer } ≡ left o values place
unfolding answered left
leaves values place a e h = rw (e, ← h)
