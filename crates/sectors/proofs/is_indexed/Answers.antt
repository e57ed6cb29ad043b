-- `sectors::is_indexed` meets its contract. Assumes nothing.
use Rattle.format.specs.Layouts.{entries}
use Rattle.sectors.proofs.is_indexed.Goals as goal

pub names-requires : goal.names-requires
names-requires c = rw c.count.ensures c.args.index.inside

pub returns : goal.returns
unfolding entries
returns c = rw c.count.ensures at c.names.ensures
