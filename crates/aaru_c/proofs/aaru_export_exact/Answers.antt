-- `aaru_c::aaru_export_exact` meets its contract. Assumes nothing.
use Rattle.format.specs.Answers.{answered}
use Rattle.aaru_c.specs.Returned.{returned, left}
use Rattle.aaru_c.proofs.aaru_export_exact.Goals as goal

pub returns-in-Ok : goal.returns-in-Ok
unfolding left answered returned
returns-in-Ok c = rw (← c.in-Ok.ensures)

pub returns-in-Err : goal.returns-in-Err
unfolding left answered returned
returns-in-Err c = rw (c.refused.ensures.0, c.refused.ensures.1, ← c.in-Err.ensures)
