-- `indexing::put_block_entry` meets its contract. Assumes nothing.
use Rattle.indexing.proofs.Whole.{one-room, wrote_none, wrote_one}
use Rattle.indexing.proofs.put_block_entry.Goals as goal

pub returns-then-stored-eq0 : goal.returns-then-stored-eq0
returns-then-stored-eq0 c = wrote_none _ _ _ _ c.if-stored-eq0.true

pub put_entry-requires : goal.put_entry-requires
put_entry-requires c = one-room _ _ _ _ c.if-stored-eq0.false c.requires

pub returns : goal.returns
returns c =
    wrote_one _ _ _ _ _ c.if-stored-eq0.false (rw c.user_data_entry.ensures at c.put_entry.ensures)
