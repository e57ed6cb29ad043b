-- `arguments::length_verdict` meets its contract. Assumes nothing.
use native.Mathlib.Omega.{arith}
use Rattle.format.proofs.Tests.{below_true, below-iff}
use Rattle.format.proofs.Chains.{stop-last, on-last}
use Rattle.arguments.proofs.length_verdict.Goals as goal

pub returns-then-buffer-gt-LONGEST_BUFFER : goal.returns-then-buffer-gt-LONGEST_BUFFER
returns-then-buffer-gt-LONGEST_BUFFER c = rw c.of.ensures (stop-last (below_true _ _ (omega arith)))

pub returns : goal.returns
returns c = on-last _ (below-iff.1 (omega arith))
