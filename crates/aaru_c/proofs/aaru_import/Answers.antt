-- `aaru_c::aaru_import` meets its contract. Assumes nothing.
use Rattle.aaru_c.proofs.Leaving.{leaves}
use Rattle.aaru_c.proofs.aaru_import.Goals as goal

pub returns : goal.returns
returns c = leaves _ _ _ c.numbers.ensures c.import-answer.ensures
