-- `sectors::read` meets its contract. Assumes nothing.
use mathlib.Core.Path.{◌≡◌, sym, ap, ◌∙◌}
use Rattle.std.specs.Prelude.{Ok}
use Rattle.fields.specs.Bytes.{part}
use Rattle.format.specs.Reading.{locate}
use Rattle.format.specs.Demands.{part_at}
use Rattle.format.proofs.Reading.{read-is-located, located-inside}
use Rattle.sectors.proofs.read.Goals as goal
use Rattle.sectors.proofs.read.Goals.{In-Ok}

given : (c : In-Ok) → Ok c.in-Ok.p ≡ locate c.args.image.bytes.now c.args.a.0
given c = c.in-Ok.ensures

pub part-requires-in-Ok : goal.part-requires-in-Ok
part-requires-in-Ok c = located-inside _ _ _ (sym (given (goal.at.part-requires-in-Ok c).In-Ok))

-- what is read is the part that `locate` names
pub returns-in-Err : goal.returns-in-Err
unfolding part part_at
returns-in-Err c =
    let l = c.in-Err.ensures in
    c.part.ensures ∙ ap (part_at _) l ∙ sym (read-is-located _ _).0

pub returns-in-Ok : goal.returns-in-Ok
unfolding part_at
returns-in-Ok c = c.part-in-Ok.ensures ∙ ap (part_at _) (given (goal.at.returns-in-Ok c).In-Ok) ∙ sym (read-is-located _ _).0
