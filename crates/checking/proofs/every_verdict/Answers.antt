-- `checking::every_verdict` meets its contract. Assumes nothing.
use Rattle.checking.proofs.Whole.{every_first}
use Rattle.checking.proofs.every_verdict.Goals as goal

pub first_unwritten-first-requires : goal.first_unwritten-first-requires
first_unwritten-first-requires c = c.first_refused.ensures

pub returns : goal.returns
returns c = every_first _ _ c.first_unwritten-first.ensures
