-- `arguments::create_verdict` meets its contract. Assumes nothing.
use native.Mathlib.Omega.{arith}
use Rattle.format.proofs.Tests.{below_true, below-iff, same-iff, or-iff}
use Rattle.format.proofs.Chains.{early, stop, on, stop-last, on-last, stops, goes, by}
use Rattle.format.specs.Creating.{created_used, created_index_at, create_verdict}
use Prim.Native.Nat.{◌≤◌}
use Rattle.format.specs.Writing.{most_sectors}
use Rattle.arguments.proofs.create_verdict.Goals as goal
use Rattle.arguments.proofs.create_verdict.Goals.{Else-count_refused}

-- a count that check 30 lets pass
few : (c : Else-count_refused) → c.args.count ≤ most_sectors
few c = ((or-iff same-iff below-iff).0 (by c.count_refused.ensures c.if-count_refused.false)).1

pub returns-in_err-length_verdict : goal.returns-in_err-length_verdict
unfolding create_verdict
returns-in_err-length_verdict c = early c.from_residual.ensures (stops _ c.in_err-length_verdict.ensures)

pub returns-then-count_refused : goal.returns-then-count_refused
unfolding create_verdict
returns-then-count_refused c = rw c.of.ensures (goes c.in_ok-length_verdict.ensures (stop _ (by c.count_refused.ensures c.if-count_refused.true)))

pub returns-in_err-name_verdict : goal.returns-in_err-name_verdict
unfolding create_verdict
returns-in_err-name_verdict c =
    early c.from_residual-in_err-name_verdict.ensures
    (goes c.in_ok-length_verdict.ensures (on _ (by c.count_refused.ensures c.if-count_refused.false) (stops _ c.in_err-name_verdict.ensures)))

pub overflow_mul-count : goal.overflow_mul-count
overflow_mul-count c = omega (arith, few (goal.at.overflow_mul-count c).Else-count_refused)

pub overflow_add-count : goal.overflow_add-count
overflow_add-count c = omega (arith, few (goal.at.overflow_add-count c).Else-count_refused)

pub returns-then-buffer-count : goal.returns-then-buffer-count
unfolding create_verdict created_used created_index_at
returns-then-buffer-count c =
    rw c.of-then-buffer-count.ensures
    (goes c.in_ok-length_verdict.ensures (on _ (by c.count_refused.ensures c.if-count_refused.false)
    (goes c.in_ok-name_verdict.ensures (stop-last (below_true _ _ (omega arith))))))

pub returns : goal.returns
unfolding create_verdict created_used created_index_at
returns c =
    goes c.in_ok-length_verdict.ensures (on _ (by c.count_refused.ensures c.if-count_refused.false)
    (goes c.in_ok-name_verdict.ensures (on-last _ (below-iff.1 (omega arith)))))
