-- `index::header_verdict` meets its contract. Assumes nothing.
use native.Mathlib.Omega.{arith}
use Rattle.format.specs.Opening.{header_verdict}
use Rattle.format.proofs.Tests.{below_true, below-iff, differs_true, differs-iff}
use Rattle.format.proofs.Chains.{stop, on, stop-last, on-last}
use Rattle.index.proofs.header_verdict.Goals as goal

pub returns-then-s-lt-HEADER_LENGTH : goal.returns-then-s-lt-HEADER_LENGTH
unfolding header_verdict
returns-then-s-lt-HEADER_LENGTH c = rw c.of.ensures (stop _ (below_true _ _ (omega arith)))

pub returns-then-unknown : goal.returns-then-unknown
unfolding header_verdict
returns-then-unknown c = rw c.of-then-unknown.ensures (on _ (below-iff.1 (omega arith)) (stop _ (cc)))

pub returns-then-get-ne2 : goal.returns-then-get-ne2
unfolding header_verdict
returns-then-get-ne2 c = rw c.of-then-get-ne2.ensures (on _ (below-iff.1 (omega arith)) (on _ (cc) (stop-last (differs_true _ _ (λ e. omega arith)))))

pub returns : goal.returns
unfolding header_verdict
returns c = on _ (below-iff.1 (omega arith)) (on _ (cc) (on-last _ (differs-iff.1 (omega arith))))
