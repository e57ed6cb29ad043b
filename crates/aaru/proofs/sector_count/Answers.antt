-- `aaru::sector_count` meets its contract. Assumes nothing.
use mathlib.Core.Path.{ap, ◌∙◌}
use Rattle.std.specs.Prelude.{Ok}
use Rattle.format.proofs.Answers.{count-refused, count-opened}
use Rattle.opening.specs.Images.{outcome_of}
use Rattle.aaru.proofs.sector_count.Goals as goal

pub returns-in-Err : goal.returns-in-Err
unfolding outcome_of
returns-in-Err c = count-refused _ _ c.in-Err.ensures.opens

pub returns-in-Ok : goal.returns-in-Ok
unfolding outcome_of
returns-in-Ok c = ap Ok c.range.ensures.0 ∙ count-opened _ _ c.in-Ok.ensures.opens
