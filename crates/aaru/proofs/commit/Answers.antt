-- `aaru::commit` meets its contract. Assumes nothing.
use native.Mathlib.Omega.{arith}
use mathlib.Core.Path.{sym}
use Rattle.fields.specs.Bytes.{part}
use Rattle.format.specs.Opening.{opening}
use Rattle.format.specs.Writing.{writable_verdict}
use Rattle.format.specs.Committing.{disc_verdict, commit_verdict, append, commit}
use Rattle.format.specs.Answers.{answered}
use Rattle.format.proofs.Refusals.{answer-refused}
use Rattle.format.proofs.Checks.{arguments-ok}
use Rattle.format.proofs.Chains.{early-as, stops, goes}
use Rattle.format.proofs.Answers.{outcome-stops}
use Rattle.opening.specs.Images.{outcome_of}
use Rattle.aaru.proofs.commit.Goals as goal

pub returns-in_err-commit_verdict : goal.returns-in_err-commit_verdict
unfolding commit append commit_verdict
returns-in_err-commit_verdict c =
    early-as (λ x. answered x c.args.buffer.now) c.from_residual.ensures
    (outcome-stops _ _ _ (stops _ c.in_err-commit_verdict.ensures))

pub part-requires : goal.part-requires
part-requires c = let k = ((arguments-ok _ _ _ _ _).0 (sym c.in_ok-commit_verdict.ensures)).buffer_ok.inside in omega arith

pub commit-requires : goal.commit-requires
unfolding outcome_of part
commit-requires c = (
  sym c.in_ok-commit_verdict.ensures,
  rw c.part.ensures at (sym c.in-Ok.ensures.opens),
)

pub returns-in-Err : goal.returns-in-Err
unfolding commit append commit_verdict disc_verdict writable_verdict opening outcome_of part
returns-in-Err c =
    outcome-stops _ _ _
    (goes c.in_ok-commit_verdict.ensures
    (stops _ (stops _ (stops _ (sym (answer-refused _ _ _ (sym (rw c.part.ensures at c.in-Err.ensures.opens))))))))
