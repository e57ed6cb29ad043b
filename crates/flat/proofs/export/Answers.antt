-- `flat::export` meets its contract. Assumes nothing.
use Rattle.format.specs.Answers.{answered}
use Rattle.opening.specs.Images.{outcome_of}
use Rattle.flat.proofs.Whole.{export-unopened}
use Rattle.format.proofs.Chains.{early-as}
use Rattle.flat.proofs.export.Goals as goal

pub returns-in_err-opened : goal.returns-in_err-opened
unfolding outcome_of
returns-in_err-opened c =
    early-as (λ x. answered x c.args.out.now) c.from_residual.ensures
    (export-unopened _ _ c.in_err-opened.ensures.opens _)

pub returns : goal.returns
returns c = rw c.in_ok-opened.ensures.bytes at c.export_at.ensures
