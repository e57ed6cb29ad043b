-- `text::Writer::end` meets its contract. Assumes nothing.
use Rattle.text.proofs.Appends.{appends_then}
use Rattle.text.proofs.Writer.end.Goals as goal

pub returns : goal.returns
returns c = appends_then c.both.ensures c.bytes.ensures
