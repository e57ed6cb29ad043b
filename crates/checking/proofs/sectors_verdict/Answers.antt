-- `checking::sectors_verdict` meets its contract. Assumes nothing.
use Rattle.checking.proofs.Whole.{first-verdict}
use Rattle.checking.proofs.sectors_verdict.Goals as goal

pub returns : goal.returns
returns c = first-verdict _ _ c.first_refused-first.ensures
