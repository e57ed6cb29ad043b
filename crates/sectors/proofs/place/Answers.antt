-- `sectors::place` meets its contract. Assumes nothing.
use native.Mathlib.Omega.{arith}
use Prim.Native.Nat.{◌+◌, ◌*◌, ◌≤◌}
use lib.ListN.{length}
use Rattle.format.specs.Layouts.{block_header_length}
use Rattle.format.specs.Reading.{place_of}
use Rattle.format.proofs.Checks.{item-inside}
use Rattle.sectors.proofs.place.Goals as goal
use Rattle.sectors.proofs.place.Goals.{After-get-size}

-- the item lies in the image
inside : (c : After-get-size) → let p = c.args.p in
    p.block.0 + block_header_length + p.item.0 * c.get-size.result ≤ length c.args.s.now
inside c =
    let k = c.requires in
    rw c.get-size.ensures (omega (arith, item-inside _ _ _ k, k.block.fits))

pub overflow_mul-start : goal.overflow_mul-start
overflow_mul-start c = let k = inside (goal.at.overflow_mul-start c).After-get-size in omega arith

pub overflow_add-start-2 : goal.overflow_add-start-2
overflow_add-start-2 c = let k = inside (goal.at.overflow_add-start-2 c).After-get-size in omega arith

pub returns : goal.returns
unfolding place_of
returns c = rw c.get-size.ensures
