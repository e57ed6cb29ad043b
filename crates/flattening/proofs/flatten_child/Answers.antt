-- `flattening::flatten_child` meets its contract. Assumes nothing.
use mathlib.Core.Path.{sym}
use Rattle.format.specs.Refusals.{refusal}
use Rattle.format.specs.Answers.{answered}
use Rattle.format.proofs.Refusals.{row-iff}
use Rattle.format.proofs.Checks.{second-iff}
use Rattle.format.proofs.Chains.{early-as}
use Rattle.flattening.proofs.Stages.{flatten-stops, kind-stops}
use Rattle.flattening.proofs.flatten_child.Goals as goal

pub returns-in_err-kind_verdict : goal.returns-in_err-kind_verdict
returns-in_err-kind_verdict c =
    early-as (λ x. answered x c.args.buffer.now) c.from_residual.ensures
    (flatten-stops _ _ _ _ _ _ _ _ _ (kind-stops _ _ _ _ c.requires _ c.args.child.opens c.in_err-kind_verdict.ensures))

pub flatten_opened-requires : goal.flatten_opened-requires
flatten_opened-requires c = ((row-iff (refusal 74 0) (second-iff _)).0 (sym c.in_ok-kind_verdict.ensures), c.requires)
