-- `text::Writer::refused` meets its contract. Assumes nothing.
use Rattle.text.specs.Text.{refused_line}
use Rattle.text.proofs.Writer.refused.Goals as goal

pub returns : goal.returns
unfolding refused_line
returns c = c.end.ensures
