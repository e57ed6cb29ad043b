-- `aaru_c::aaru_commit` meets its contract. Assumes nothing.
use Rattle.aaru_c.proofs.Leaving.{leaves}
use Rattle.aaru_c.proofs.aaru_commit.Goals as goal

pub returns : goal.returns
returns c = leaves _ _ _ c.numbers.ensures c.commit-answer.ensures
