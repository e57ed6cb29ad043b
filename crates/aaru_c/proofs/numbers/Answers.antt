-- `aaru_c::numbers` meets its contract. Assumes nothing.
use Rattle.aaru_c.specs.Returned.{returned}
use Rattle.aaru_c.proofs.numbers.Goals as goal

pub returns-in-Ok : goal.returns-in-Ok
unfolding returned
returns-in-Ok c = rw c.in-Ok.is

pub returns-in-Err : goal.returns-in-Err
unfolding returned
returns-in-Err c = rw (c.refused.ensures.0, c.refused.ensures.1, c.in-Err.is)
