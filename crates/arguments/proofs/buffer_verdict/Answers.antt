-- `arguments::buffer_verdict` meets its contract. Assumes nothing.
use native.Mathlib.Omega.{arith}
use Rattle.format.proofs.Tests.{below_true, below-iff}
use Rattle.format.proofs.Chains.{early, stops, goes, stop-last, on-last}
use Rattle.format.specs.Writing.{buffer_verdict}
use Rattle.arguments.proofs.buffer_verdict.Goals as goal

pub returns-in_err-length_verdict : goal.returns-in_err-length_verdict
unfolding buffer_verdict
returns-in_err-length_verdict c = early c.from_residual.ensures (stops _ c.in_err-length_verdict.ensures)

pub returns-then-buffer-used : goal.returns-then-buffer-used
unfolding buffer_verdict
returns-then-buffer-used c = rw c.of.ensures (goes c.in_ok-length_verdict.ensures (stop-last (below_true _ _ (omega arith))))

pub returns : goal.returns
unfolding buffer_verdict
returns c = goes c.in_ok-length_verdict.ensures (on-last _ (below-iff.1 (omega arith)))
