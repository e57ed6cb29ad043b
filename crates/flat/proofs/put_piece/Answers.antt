-- `flat::put_piece` meets its contract. Assumes nothing.
use mathlib.Core.Path.{ap, ◌∙◌}
use Rattle.fields.specs.Bytes.{overwrite}
use Rattle.flat.proofs.Sectors.{piece-gap, piece-sector, sector-inside, sector-room}
use Rattle.flat.proofs.put_piece.Goals as goal

pub part-requires : goal.part-requires
part-requires c =
    let h = c.requires in
    sector-inside _ _ _ h.0 h.1 c.in-Some.ensures

pub copy-requires : goal.copy-requires
copy-requires c =
    let h = c.requires in
    sector-room _ _ _ h.0 h.1 c.in-Some.ensures _ _ c.part.ensures h.2

pub returns-in-None : goal.returns-in-None
returns-in-None c =
    c.clear.ensures
    ∙ ap (overwrite _ _) (piece-gap _ _ _ c.in-None.ensures c.requires.0.size_is)

pub returns-in-Some : goal.returns-in-Some
returns-in-Some c =
    c.copy.ensures
    ∙ ap (overwrite _ _)
    (c.part.ensures ∙ piece-sector _ _ _ c.in-Some.ensures)
