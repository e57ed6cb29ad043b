-- `opening::Image::written` meets its contract. Assumes nothing.
use Rattle.format.proofs.Chains.{by}
use Rattle.opening.specs.Answers.{PointsTo}
use Rattle.opening.proofs.Accepted.{decodes}
use Rattle.opening.proofs.Entries.{written_is, pointer_is}
use Rattle.opening.proofs.image.Image.written.Goals as goal

pub returns-then-is_unwritten : goal.returns-then-is_unwritten
unfolding PointsTo
returns-then-is_unwritten c = by (written_is _ _ _ c.table_entry-e.ensures c.is_unwritten.ensures) c.if-is_unwritten.true

pub decoded-requires : goal.decoded-requires
decoded-requires c = decodes _ _ c.args.self.opens

pub returns : goal.returns
unfolding PointsTo
returns c =
    let e = c.table_entry-e.ensures in
    (by (written_is _ _ _ e c.is_unwritten.ensures) c.if-is_unwritten.false, pointer_is _ _ _ e c.decoded.ensures)
