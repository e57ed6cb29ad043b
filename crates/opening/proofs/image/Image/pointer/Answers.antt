-- `opening::Image::pointer` meets its contract. Assumes nothing.
use Rattle.format.specs.Reading.{pointer_at}
use Rattle.opening.proofs.Accepted.{decodes}
use Rattle.opening.proofs.image.Image.pointer.Goals as goal

pub decoded-requires : goal.decoded-requires
decoded-requires c = decodes _ _ c.args.self.opens

pub returns : goal.returns
unfolding pointer_at
returns c = rw c.table_entry.ensures at c.decoded.ensures
