-- `opening::Image::index` meets its contract. Assumes nothing.
use native.Mathlib.Omega.{arith}
use Rattle.format.specs.Layouts.{index_offset}
use Rattle.opening.proofs.Accepted.{opens}
use Rattle.opening.proofs.image.Image.index.Goals as goal

pub get-requires : goal.get-requires
get-requires c = let k = (opens _ _ c.args.self.opens).header in (omega arith, omega arith)

pub invariant_of-result : goal.invariant_of-result
unfolding index_offset
invariant_of-result c = record { inside = rw c.get.ensures (opens _ _ c.args.self.opens).index.fits }

pub returns-clause-at : goal.returns-clause-at
unfolding index_offset
returns-clause-at c = c.get.ensures
