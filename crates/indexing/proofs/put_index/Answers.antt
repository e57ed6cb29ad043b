-- `indexing::put_index` meets its contract. Assumes nothing.
use native.Mathlib.Omega.{arith}
use Rattle.indexing.proofs.Whole.{room-is, index-written}
use Rattle.indexing.proofs.put_index.Goals as goal

pub put_kept-requires : goal.put_kept-requires
put_kept-requires c =
    let i = c.requires in
    (i.inside, omega (arith, i.past), omega (arith, room-is i, i.counted))

pub overflow_mul-kept : goal.overflow_mul-kept
overflow_mul-kept c = omega (arith, room-is c.requires)

pub overflow_add-start-2 : goal.overflow_add-start-2
overflow_add-start-2 c = omega (arith, room-is c.requires)

pub put_block_entry-more-requires : goal.put_block_entry-more-requires
put_block_entry-more-requires c = omega (arith, room-is c.requires)

pub overflow_add-kept : goal.overflow_add-kept
overflow_add-kept c = omega (arith, room-is c.requires)

pub seal_index-requires : goal.seal_index-requires
seal_index-requires c = omega (arith, room-is c.requires)

pub returns : goal.returns
returns c =
    index-written c.requires c.put_kept.ensures c.put_block_entry-more.ensures c.seal_index.ensures
