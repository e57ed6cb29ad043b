-- `appending::put_data` meets its contract. Assumes nothing.
use native.Mathlib.Omega.{arith}
use Rattle.appending.proofs.Appended.{data-room, data-written}
use Rattle.appending.proofs.put_data.Goals as goal

pub seal_block-requires : goal.seal_block-requires
seal_block-requires c = omega (arith, data-room c.requires.0)

pub returns : goal.returns
returns c =
    data-written c.requires.0
    c.put_entries.ensures c.seal_block.ensures c.count.ensures c.seal_table.ensures
