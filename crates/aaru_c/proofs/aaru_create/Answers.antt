-- `aaru_c::aaru_create` meets its contract. Assumes nothing.
use Rattle.aaru_c.proofs.Leaving.{leaves}
use Rattle.aaru_c.proofs.aaru_create.Goals as goal

pub returns : goal.returns
returns c = leaves _ _ _ c.numbers.ensures c.create-answer.ensures
