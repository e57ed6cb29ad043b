-- `aaru_c::aaru_sector_count` meets its contract. Assumes nothing.
use borrow.Author.Rules.{rules}
use mir.Syntax.{w64}
use mir.Val.{SFits}
use mir.Facts.{to_z-of_z}
use Rattle.aaru_c.specs.Returned.{returned}
use Rattle.aaru_c.proofs.aaru_sector_count.Goals as goal

pub returns-in-Ok : goal.returns-in-Ok
unfolding returned
returns-in-Ok c =
    let f : SFits w64 c.in-Ok.s.lowest.0 = search rules in
    rw (to_z-of_z f, ← c.in-Ok.ensures)

pub returns-in-Err : goal.returns-in-Err
unfolding returned
returns-in-Err c = rw (c.refused.ensures.0, c.refused.ensures.1, ← c.in-Err.ensures)
