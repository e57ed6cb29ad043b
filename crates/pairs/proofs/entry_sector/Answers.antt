-- `pairs::entry_sector` meets its contract. Assumes nothing.
use mathlib.Core.Path.{◌≡◌, ◌∙◌}
use Rattle.fields.specs.Bytes.{part}
use Rattle.format.specs.Reading.{not_written, pointer_at}
use Rattle.opening.specs.Images.{held}
use Rattle.opening.proofs.Accepted.{decodes}
use Rattle.opening.proofs.Entries.{written_is, pointer_is}
use Rattle.pairs.proofs.Sectors.{entry-none, entry-item, entry-inside, entry-bytes}
use Rattle.pairs.proofs.entry_sector.Goals as goal
use Rattle.pairs.proofs.entry_sector.Goals.{After-decoded, After-is_unwritten}

gap : (c : After-is_unwritten) → let a = c.args in c.is_unwritten.result ≡ not_written a.image.bytes.now (held a.image) a.n.0
gap c = written_is _ _ _ c.table_entry-e.ensures c.is_unwritten.ensures

points : (c : After-decoded)
    → let a = c.args in c.decoded.result ≡ pointer_at a.image.bytes.now (held a.image) a.n.0
points c = pointer_is _ _ _ c.table_entry-e.ensures c.decoded.ensures

pub returns-then-is_unwritten : goal.returns-then-is_unwritten
unfolding part
returns-then-is_unwritten c =
    c.part.ensures ∙ entry-none _ _ _ c.requires (gap (goal.at.returns-then-is_unwritten c).After-is_unwritten) c.if-is_unwritten.true

pub decoded-requires : goal.decoded-requires
decoded-requires c = decodes _ _ c.args.image.opens

pub place-place-requires : goal.place-place-requires
place-place-requires c =
    entry-item _ _ _ c.requires (gap (goal.at.place-place-requires c).After-is_unwritten) c.if-is_unwritten.false (points (goal.at.place-place-requires c).After-decoded)

pub part-requires-2 : goal.part-requires-2
part-requires-2 c =
    entry-inside _ _ _ c.requires (gap (goal.at.part-requires-2 c).After-is_unwritten) c.if-is_unwritten.false (points (goal.at.part-requires-2 c).After-decoded) c.place-place.ensures

pub returns : goal.returns
returns c =
    c.part-2.ensures ∙ entry-bytes _ _ _ c.requires (gap (goal.at.returns c).After-is_unwritten) c.if-is_unwritten.false (points (goal.at.returns c).After-decoded) c.place-place.ensures
