-- `index::entry_verdict` meets its contract. Assumes nothing.
use native.Mathlib.Omega.{arith}
use Rattle.format.specs.Opening.{entry_verdict}
use Rattle.format.proofs.Tests.{below_true, below-iff, differs_true, differs-iff, or-iff, or-true-left, or_true_right}
use Rattle.format.proofs.Chains.{stop, on, stop-last, on-last}
use Rattle.index.proofs.entry_verdict.Goals as goal

pub returns-then-at-lt-HEADER_LENGTH : goal.returns-then-at-lt-HEADER_LENGTH
unfolding entry_verdict
returns-then-at-lt-HEADER_LENGTH c = rw (c.at.ensures, ← c.requires) (stop _ (or-true-left _ _ (below_true _ _ (omega arith))))

pub returns-then-room-lt4 : goal.returns-then-room-lt4
unfolding entry_verdict
returns-then-room-lt4 c = rw (c.at-then-room-lt4.ensures, ← c.requires) (stop _ (or_true_right _ _ (below_true _ _ (omega arith))))

pub returns-then-get-e : goal.returns-then-get-e
unfolding entry_verdict
returns-then-get-e c =
    rw (c.at-then-get-e.ensures, ← c.requires) (on _ ((or-iff below-iff below-iff).1 (omega arith, omega arith)) (stop-last (differs_true _ _ (λ e. omega arith))))

pub returns : goal.returns
unfolding entry_verdict
returns c = rw (← c.requires) (on _ ((or-iff below-iff below-iff).1 (omega arith, omega arith)) (on-last _ (differs-iff.1 (omega arith))))
