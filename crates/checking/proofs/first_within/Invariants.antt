-- `checking::first_within` meets its contract. The invariant: the first address, while the entries that are left are still to be looked at. Assumes nothing.
use Rattle.opening.specs.Images.{held}
use Rattle.checking.specs.Checked.{looked_at, FirstOn}
use Rattle.checking.proofs.first_within.Given as goal

abbrev pub invariant-loop-i : goal.invariant-loop-i
invariant-loop-i l = FirstOn l.image.bytes.now (held l.image) (looked_at l.image.bytes.now (held l.image) l.scope) l.i l.first
