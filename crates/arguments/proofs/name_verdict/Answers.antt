-- `arguments::name_verdict` meets its contract. Assumes nothing.
use native.Mathlib.Omega.{arith}
use Rattle.format.proofs.Tests.{differs_true, differs-iff}
use Rattle.format.proofs.Chains.{stop-last, on-last}
use Rattle.arguments.proofs.name_verdict.Goals as goal

pub returns-then-application-ne-APPLICATION_LENGTH : goal.returns-then-application-ne-APPLICATION_LENGTH
returns-then-application-ne-APPLICATION_LENGTH c = rw c.of.ensures (stop-last (differs_true _ _ (λ e. omega arith)))

pub returns : goal.returns
returns c = on-last _ (differs-iff.1 (omega arith))
