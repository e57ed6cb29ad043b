-- `aaru_c::aaru_locate_over` meets its contract. Assumes nothing.
use borrow.Author.Rules.{rules}
use mathlib.Core.Path.{◌≡◌}
use mir.Syntax.{w64}
use mir.Val.{SFits}
use mir.Facts.{to_z-of_z}
use Rattle.format.specs.Overlaying.{locate_over}
use Rattle.aaru_c.specs.Returned.{returned}
use Rattle.aaru_c.proofs.aaru_locate_over.Goals as goal
use Rattle.aaru_c.proofs.aaru_locate_over.Goals.{After-locate_over-answer}

-- the address is read back from its bits
is-located : (c : After-locate_over-answer) → let a = c.args in c.locate_over-answer.result ≡ locate_over a.child.now a.parent.now a.address
is-located c =
    let fits : SFits w64 c.args.address = search rules in
    rw (to_z-of_z fits) at c.locate_over-answer.ensures

pub returns-in-Ok : goal.returns-in-Ok
unfolding returned
returns-in-Ok c = rw (← is-located (goal.at.returns-in-Ok c).After-locate_over-answer, c.in-Ok.is)

pub returns-in-Err : goal.returns-in-Err
unfolding returned
returns-in-Err c =
    rw (c.refused.ensures.0, c.refused.ensures.1, ← is-located (goal.at.returns-in-Err c).After-locate_over-answer, c.in-Err.is)
