-- `aaru::read` meets its contract. Assumes nothing.
use mathlib.Core.Path.{sym, ap, ◌∙◌}
use Rattle.fields.specs.Bytes.{part}
use Rattle.format.specs.Demands.{part_at}
use Rattle.format.proofs.Answers.{locate-unopened}
use Rattle.format.proofs.Reading.{read-is-located}
use Rattle.opening.specs.Images.{outcome_of}
use Rattle.aaru.proofs.read.Goals as goal

-- where the image does not open, the empty part is what is read
pub returns-in-Err : goal.returns-in-Err
unfolding part part_at outcome_of
returns-in-Err c =
    let l = locate-unopened _ _ _ c.in-Err.ensures.opens in
    c.part.ensures ∙ ap (part_at _) l ∙ sym (read-is-located _ _).0

pub returns-in-Ok : goal.returns-in-Ok
returns-in-Ok c = rw c.in-Ok.ensures.bytes at c.read.ensures
