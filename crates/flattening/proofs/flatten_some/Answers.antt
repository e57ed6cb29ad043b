-- `flattening::flatten_some` meets its contract. Assumes nothing.
use Rattle.flattening.proofs.Whole.{flat-all}
use Rattle.flattening.proofs.flatten_some.Goals as goal

pub lay_out-most-requires : goal.lay_out-most-requires
lay_out-most-requires c = rw c.count.ensures (flat-all c.requires.0 c.requires.1)
