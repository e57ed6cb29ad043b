-- `composing::finish` meets its contract. Assumes nothing.
use native.Mathlib.Omega.{arith}
use Rattle.format.specs.Creating.{created_used, created_index_at}
use Rattle.composing.proofs.Laid.{stands, fits_all, filled-long, fits-indexes, fits-written}
use Rattle.composing.proofs.finish.Goals as goal

-- in what follows h is what is asked for
pub seal_block-requires : goal.seal_block-requires
seal_block-requires c =
    let h = c.requires in
    omega (arith, fits_all h.fits, (stands h.fits.plan).used, filled-long h.fits h.is)

pub seal_table-requires : goal.seal_table-requires
seal_table-requires c =
    let h = c.requires in
    omega (arith, fits_all h.fits, (stands h.fits.plan).table, filled-long h.fits h.is, c.seal_block.auto.buf)

pub put_index-requires : goal.put_index-requires
put_index-requires c =
    let h = c.requires in
    fits-indexes h.fits h.is c.seal_block.ensures c.seal_table.ensures

pub set_header-requires : goal.set_header-requires
unfolding created_used created_index_at
set_header-requires c =
    let h = c.requires in
    omega (arith, fits_all h.fits, filled-long h.fits h.is, c.seal_block.auto.buf, c.seal_table.auto.buf, c.put_index.auto.buf)

pub returns : goal.returns
returns c before f w e =
    fits-written w e c.seal_block.ensures c.seal_table.ensures _ c.put_index.ensures c.set_header.ensures
