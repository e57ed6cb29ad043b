-- `text::Writer::both` meets its contract. Assumes nothing.
use Rattle.text.proofs.Appends.{appends_then}
use Rattle.text.proofs.Writer.both.Goals as goal

pub returns : goal.returns
returns c = appends_then c.bytes.ensures c.number.ensures
