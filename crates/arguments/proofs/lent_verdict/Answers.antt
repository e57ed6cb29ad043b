-- `arguments::lent_verdict` meets its contract. Assumes nothing.
use Rattle.format.specs.Flattening.{lent_verdict}
use Rattle.format.proofs.Chains.{early, stops, goes}
use Rattle.arguments.proofs.lent_verdict.Goals as goal

pub returns-in_err-length_verdict : goal.returns-in_err-length_verdict
unfolding lent_verdict
returns-in_err-length_verdict c = early c.from_residual.ensures (stops _ c.in_err-length_verdict.ensures)

pub returns : goal.returns
unfolding lent_verdict
returns c = goes c.in_ok-length_verdict.ensures c.name_verdict.ensures
