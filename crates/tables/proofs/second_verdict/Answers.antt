-- `tables::second_verdict` meets its contract. Assumes nothing.
use native.Mathlib.Omega.{arith}
use Rattle.format.specs.Layouts.{table_negative}
use Rattle.format.specs.Opening.{extent_verdict}
use Rattle.format.proofs.Tests.{below_true, below-iff, differs_true, differs-iff}
use Rattle.format.proofs.Chains.{stop, on, stop-last, on-last}
use Rattle.tables.proofs.second_verdict.Goals as goal

pub returns-then-get-ne1 : goal.returns-then-get-ne1
unfolding extent_verdict
returns-then-get-ne1 c = rw c.of.ensures (stop _ (differs_true _ _ (λ e. omega arith)))

pub returns-then-get-ne0 : goal.returns-then-get-ne0
unfolding extent_verdict
returns-then-get-ne0 c = rw c.of-then-get-ne0.ensures (on _ (differs-iff.1 (omega arith)) (stop _ (differs_true _ _ (λ e. omega arith))))

pub returns-then-blocks-negative : goal.returns-then-blocks-negative
unfolding extent_verdict table_negative
returns-then-blocks-negative c =
    rw c.of-then-blocks-negative.ensures
    (on _ (differs-iff.1 (omega arith)) (on _ (differs-iff.1 (omega arith)) (stop-last (below_true _ _ (omega arith)))))

pub returns-then-blocks-negative-2 : goal.returns-then-blocks-negative-2
unfolding extent_verdict table_negative
returns-then-blocks-negative-2 c =
    rw c.of-then-blocks-negative-2.ensures
    (on _ (differs-iff.1 (omega arith)) (on _ (differs-iff.1 (omega arith)) (stop-last (below_true _ _ (omega arith)))))

pub returns : goal.returns
unfolding extent_verdict table_negative
returns c = on _ (differs-iff.1 (omega arith)) (on _ (differs-iff.1 (omega arith)) (on-last _ (below-iff.1 (omega arith))))
