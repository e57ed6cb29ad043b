-- `index::index_verdict` meets its contract. Assumes nothing.
use mathlib.Core.Bool.{not}
use mathlib.Core.Path.{ap}
use native.Mathlib.Omega.{arith}
use Rattle.format.specs.Layouts.{entry_count}
use Rattle.format.specs.Opening.{index_verdict}
use Rattle.format.proofs.Tests.{below_true, below-iff, differs_true, differs-iff, or-iff, or-true-left, or_true_right}
use Rattle.format.proofs.Checks.{lacks-not}
use Rattle.format.proofs.Chains.{by, stop, on, stop-last, on-last}
use Rattle.index.proofs.index_verdict.Goals as goal

pub returns-then-index-lt-HEADER_LENGTH : goal.returns-then-index-lt-HEADER_LENGTH
unfolding index_verdict
returns-then-index-lt-HEADER_LENGTH c = rw c.at.ensures (stop _ (or-true-left _ _ (below_true _ _ (omega arith))))

pub returns-then-room-lt20 : goal.returns-then-room-lt20
unfolding index_verdict
returns-then-room-lt20 c = rw c.at-then-room-lt20.ensures (stop _ (or_true_right _ _ (below_true _ _ (omega arith))))

pub returns-then-not-spells : goal.returns-then-not-spells
unfolding index_verdict
returns-then-not-spells c =
    rw c.at-then-not-spells.ensures
    (on _ ((or-iff below-iff below-iff).1 (omega arith, omega arith)) (stop _ (by (lacks-not _ _ _ c.spells.ensures) (ap not c.if-not-spells.true))))

pub returns-then-room-entries : goal.returns-then-room-entries
unfolding index_verdict entry_count
returns-then-room-entries c =
    rw c.at-then-room-entries.ensures
    (on _ ((or-iff below-iff below-iff).1 (omega arith, omega arith))
    (on _ (by (lacks-not _ _ _ c.spells.ensures) (ap not c.if-not-spells.false)) (stop _ (below_true _ _ (omega arith)))))

pub returns-then-checksum-get : goal.returns-then-checksum-get
unfolding index_verdict entry_count
returns-then-checksum-get c =
    rw c.at-then-checksum-get.ensures
    (on _ ((or-iff below-iff below-iff).1 (omega arith, omega arith))
    (on _ (by (lacks-not _ _ _ c.spells.ensures) (ap not c.if-not-spells.false)) (on _ (below-iff.1 (omega arith)) (stop-last (differs_true _ _ (λ e. c.if-checksum-get.true (cc)))))))

pub returns : goal.returns
unfolding index_verdict entry_count
returns c =
    on _ ((or-iff below-iff below-iff).1 (omega arith, omega arith))
    (on _ (by (lacks-not _ _ _ c.spells.ensures) (ap not c.if-not-spells.false)) (on _ (below-iff.1 (omega arith)) (on-last _ (differs-iff.1 (cc)))))
