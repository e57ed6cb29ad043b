-- `sectors::block_verdict` meets its contract. Assumes nothing.
use native.Mathlib.Omega.{arith}
use Rattle.format.specs.Reading.{block_verdict}
use Rattle.format.proofs.Tests.{below_true, below-iff, differs_true, differs-iff}
use Rattle.format.proofs.Chains.{stop, on, stop-last, on-last, by}
use Rattle.sectors.proofs.block_verdict.Goals as goal

pub returns-then-room-lt36 : goal.returns-then-room-lt36
unfolding block_verdict
returns-then-room-lt36 c = rw c.at.ensures (stop _ (below_true _ _ (omega arith)))

pub returns-then-get-ne0 : goal.returns-then-get-ne0
unfolding block_verdict
returns-then-get-ne0 c = rw c.at-then-get-ne0.ensures (on _ (below-iff.1 (omega arith)) (stop _ (differs_true _ _ (λ e. omega arith))))

pub returns-then-block_malformed : goal.returns-then-block_malformed
unfolding block_verdict
returns-then-block_malformed c =
    rw c.at-then-block_malformed.ensures
    (on _ (below-iff.1 (omega arith))
    (on _ (differs-iff.1 (omega arith)) (stop _ (by c.block_malformed.ensures c.if-block_malformed.true))))

pub returns-then-room-get : goal.returns-then-room-get
unfolding block_verdict
returns-then-room-get c =
    rw c.at-then-room-get.ensures
    (on _ (below-iff.1 (omega arith))
    (on _ (differs-iff.1 (omega arith))
    (on _ (by c.block_malformed.ensures c.if-block_malformed.false) (stop-last (below_true _ _ (omega arith))))))

pub returns : goal.returns
unfolding block_verdict
returns c =
    on _ (below-iff.1 (omega arith))
    (on _ (differs-iff.1 (omega arith))
    (on _ (by c.block_malformed.ensures c.if-block_malformed.false) (on-last _ (below-iff.1 (omega arith)))))
