-- `flat::export_exact_at` meets its contract. Assumes nothing.
use mathlib.Core.Path.{◌∙◌}
use Rattle.format.specs.Answers.{answered}
use Rattle.format.proofs.Chains.{early-as, stops}
use Rattle.format.proofs.Answers.{outcome-stops}
use Rattle.flat.proofs.Whole.{outcome-rest, every-checked, exact-opened}
use Rattle.flat.proofs.export_exact_at.Goals as goal

pub returns-in_err-every_verdict : goal.returns-in_err-every_verdict
returns-in_err-every_verdict c =
    early-as (λ x. answered x c.args.out.now) c.from_residual.ensures
    (outcome-stops _ _ _ (stops _ c.in_err-every_verdict.ensures) ∙ exact-opened _ _ c.args.image.opens _)

pub export_file-requires : goal.export_file-requires
export_file-requires c = every-checked _ _ c.args.image.opens c.in_ok-every_verdict.ensures

pub returns : goal.returns
returns c =
    outcome-rest _ _ _ _ c.in_ok-every_verdict.ensures c.export_file.ensures
    ∙ exact-opened _ _ c.args.image.opens _
