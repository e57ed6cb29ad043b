-- `appending::put_all` meets its contract. Assumes nothing.
use native.Mathlib.Omega.{arith}
use Rattle.fields.specs.Bytes.{part}
use Rattle.format.specs.Layouts.{index_offset}
use Rattle.appending.proofs.Appended.{inside, length-img, image-inside, image-low, fits-data, fits-index, fits-written}
use Rattle.appending.proofs.put_all.Goals as goal

pub part-requires : goal.part-requires
part-requires c = omega (arith, image-inside _ _ _ _ _ _ c.requires.passed)

pub get-requires : goal.get-requires
unfolding part
get-requires c = let f = c.requires.passed in rw c.part.ensures (omega (arith, length-img _ _ _ _ _ _ f, image-low _ _ _ _ _ _ f))

pub put_data-requires : goal.put_data-requires
put_data-requires c = let f = c.requires in (fits-data f c.shift_for-shift.ensures, inside _ _ _ _ _ _ f.passed)

pub put_index-requires : goal.put_index-requires
unfolding part index_offset
put_index-requires c =
    fits-index c.requires (rw c.part.ensures at c.get.ensures) c.put_data.ensures

pub set_header-requires : goal.set_header-requires
set_header-requires c = let f = c.requires.passed in omega (arith, image-inside _ _ _ _ _ _ f, image-low _ _ _ _ _ _ f)

pub returns : goal.returns
unfolding part index_offset
returns c =
    fits-written c.requires _ (rw c.part.ensures at c.get.ensures) c.put_data.ensures
    c.put_index.ensures c.set_header.ensures
