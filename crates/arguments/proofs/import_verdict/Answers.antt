-- `arguments::import_verdict` meets its contract. Assumes nothing.
use native.Mathlib.Omega.{arith}
use mathlib.Core.Logic.{◌≢◌}
use Rattle.format.specs.Importing.{import_verdict}
use Rattle.format.proofs.Tests.{below-iff, same-iff, differs_true, differs-iff, or-iff}
use Rattle.format.proofs.Chains.{early, stop, on, stops, goes, by}
use Rattle.arguments.proofs.import_verdict.Goals as goal
use Rattle.arguments.proofs.import_verdict.Goals.{Else-file_refused}

-- a size that check 30 lets pass
some : (c : Else-file_refused) → c.args.size ≢ 0
some c = ((or-iff same-iff (or-iff below-iff (or-iff same-iff below-iff))).0 (by c.file_refused.ensures c.if-file_refused.false)).0

pub returns-in_err-length_verdict : goal.returns-in_err-length_verdict
unfolding import_verdict
returns-in_err-length_verdict c = early c.from_residual.ensures (stops _ c.in_err-length_verdict.ensures)

pub returns-then-file_refused : goal.returns-then-file_refused
unfolding import_verdict
returns-then-file_refused c = rw c.of.ensures (goes c.in_ok-length_verdict.ensures (stop _ (by c.file_refused.ensures c.if-file_refused.true)))

pub nonzero_rem-length : goal.nonzero_rem-length
nonzero_rem-length c = omega (arith, some (goal.at.nonzero_rem-length c).Else-file_refused)

pub returns-then-length-size-ne0 : goal.returns-then-length-size-ne0
unfolding import_verdict
returns-then-length-size-ne0 c =
    rw c.of-then-length-size-ne0.ensures
    (goes c.in_ok-length_verdict.ensures (on _ (by c.file_refused.ensures c.if-file_refused.false) (stop _ (differs_true _ _ c.if-length-size-ne0.true))))

pub returns : goal.returns
unfolding import_verdict
returns c =
    goes c.in_ok-length_verdict.ensures (on _ (by c.file_refused.ensures c.if-file_refused.false)
    (on _ (differs-iff.1 c.if-length-size-ne0.false) c.name_verdict.ensures))
