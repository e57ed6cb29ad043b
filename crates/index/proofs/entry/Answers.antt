-- `index::entry` meets its contract. Assumes nothing.
use Rattle.format.specs.Layouts.{entry_at}
use Rattle.index.proofs.entry.Goals as goal

pub returns : goal.returns
unfolding entry_at
returns c = cc
