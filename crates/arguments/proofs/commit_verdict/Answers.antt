-- `arguments::commit_verdict` meets its contract. Assumes nothing.
use native.Mathlib.Omega.{arith}
use native.Mathlib.Nat.{mul-le-mul}
use mathlib.Core.Bool.{not}
use mathlib.Core.Logic.{◌≢◌}
use mathlib.Core.Path.{◌≡◌, ap}
use Prim.Native.Nat.{◌≤◌}
use lib.ListN.{length}
use Rattle.std.specs.Prelude.{Ok}
use Rattle.format.specs.Writing.{largest_size, most_addresses, buffer_verdict}
use Rattle.format.specs.Committing.{arguments_verdict}
use Rattle.format.proofs.Tests.{below-iff, same-iff, differs_true, differs-iff, or-iff, not_iff}
use Rattle.format.proofs.Chains.{early, stop, on, stop-last, on-last, stops, goes, by}
use Rattle.arguments.proofs.commit_verdict.Goals as goal
use Rattle.arguments.proofs.commit_verdict.Goals.{Else-size_refused, In_ok-buffer_verdict}

-- what is known once the buffer has passed
passes : (c : In_ok-buffer_verdict) → Ok tt ≡ buffer_verdict c.args.buffer.now c.args.used
passes c = c.in_ok-buffer_verdict.ensures

-- and once check 30 has
sized : (c : Else-size_refused) → let a = c.args in
    (a.size ≢ 0) × ((a.size ≤ largest_size) × (length a.addresses.now ≤ most_addresses))
sized c = (or-iff same-iff (or-iff below-iff below-iff)).0 (by c.size_refused.ensures c.if-size_refused.false)

pub returns-in_err-buffer_verdict : goal.returns-in_err-buffer_verdict
unfolding arguments_verdict
returns-in_err-buffer_verdict c = early c.from_residual.ensures (stops _ c.in_err-buffer_verdict.ensures)

pub returns-then-size_refused : goal.returns-then-size_refused
unfolding arguments_verdict
returns-then-size_refused c =
    rw c.of.ensures
    (goes (passes (goal.at.returns-then-size_refused c).In_ok-buffer_verdict) (stop _ (by c.size_refused.ensures c.if-size_refused.true)))

pub overflow_mul-count : goal.overflow_mul-count
overflow_mul-count c = let k = sized (goal.at.overflow_mul-count c).Else-size_refused in omega (arith, mul-le-mul k.1.1 k.1.0)

pub returns-then-sectors-count : goal.returns-then-sectors-count
unfolding arguments_verdict
returns-then-sectors-count c =
    rw c.of-then-sectors-count.ensures
    (goes (passes (goal.at.returns-then-sectors-count c).In_ok-buffer_verdict)
    (on _ (by c.size_refused.ensures c.if-size_refused.false) (stop _ (differs_true _ _ (λ e. omega arith)))))

pub returns-then-is_rising : goal.returns-then-is_rising
unfolding arguments_verdict
returns-then-is_rising c =
    goes (passes (goal.at.returns-then-is_rising c).In_ok-buffer_verdict)
    (on _ (by c.size_refused.ensures c.if-size_refused.false)
    (on _ (differs-iff.1 (omega arith)) (on-last _ (not_iff.1 (by c.is_rising.ensures c.if-is_rising.true)))))

pub returns : goal.returns
unfolding arguments_verdict
returns c =
    rw c.of-2.ensures
    (goes (passes (goal.at.returns c).In_ok-buffer_verdict)
    (on _ (by c.size_refused.ensures c.if-size_refused.false)
    (on _ (differs-iff.1 (omega arith)) (stop-last (ap not (by c.is_rising.ensures c.if-is_rising.false))))))
