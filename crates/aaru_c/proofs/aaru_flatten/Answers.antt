-- `aaru_c::aaru_flatten` meets its contract. Assumes nothing.
use Rattle.aaru_c.proofs.Leaving.{leaves}
use Rattle.aaru_c.proofs.aaru_flatten.Goals as goal

pub returns : goal.returns
returns c = leaves _ _ _ c.numbers.ensures c.flatten-answer.ensures
