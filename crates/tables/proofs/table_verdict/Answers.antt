-- `tables::table_verdict` meets its contract. Assumes nothing.
use native.Mathlib.Omega.{arith}
use Rattle.format.specs.Opening.{table_verdict}
use Rattle.format.proofs.Tests.{below_true, below-iff, differs_true, differs-iff}
use Rattle.format.proofs.Chains.{early, stop, on, stops, goes, by}
use Rattle.tables.proofs.table_verdict.Goals as goal

pub returns-then-room-l : goal.returns-then-room-l
unfolding table_verdict
returns-then-room-l c = rw c.at.ensures (stop _ (below_true _ _ (omega arith)))

pub returns-then-get-ne0 : goal.returns-then-get-ne0
unfolding table_verdict
returns-then-get-ne0 c = rw c.at-then-get-ne0.ensures (on _ (below-iff.1 (omega arith)) (stop _ (differs_true _ _ (λ e. omega arith))))

pub returns-in_err-extent_verdict : goal.returns-in_err-extent_verdict
unfolding table_verdict
returns-in_err-extent_verdict c =
    early c.from_residual.ensures (on _ (below-iff.1 (omega arith))
    (on _ (differs-iff.1 (omega arith)) (stops _ c.in_err-extent_verdict.ensures)))

pub returns-then-table_malformed : goal.returns-then-table_malformed
unfolding table_verdict
returns-then-table_malformed c =
    rw c.at-then-table_malformed.ensures
    (on _ (below-iff.1 (omega arith))
    (on _ (differs-iff.1 (omega arith))
    (goes c.in_ok-extent_verdict.ensures (stop _ (by c.table_malformed.ensures c.if-table_malformed.true)))))

pub returns : goal.returns
unfolding table_verdict
returns c =
    on _ (below-iff.1 (omega arith))
    (on _ (differs-iff.1 (omega arith))
    (goes c.in_ok-extent_verdict.ensures
    (on _ (by c.table_malformed.ensures c.if-table_malformed.false) c.payload_verdict.ensures)))
