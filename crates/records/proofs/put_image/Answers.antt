-- `records::put_image` meets its contract. Assumes nothing.
use Rattle.format.specs.Creating.{created_used, created_index_at}
use Rattle.records.proofs.Created.{created-image}
use Rattle.records.proofs.put_image.Goals as goal

pub returns : goal.returns
unfolding created_used created_index_at
returns c =
    created-image _ _ _ _ _ _ _ _ _ _ _ _ _ c.requires c.put_header.ensures c.clear.ensures c.seal_table.ensures
    (rw c.user_data_entry-e.ensures at c.put_entry.ensures) c.seal_index.ensures
