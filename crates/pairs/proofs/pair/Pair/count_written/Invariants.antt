-- `pairs::Pair::count_written` meets its contract. The invariant: so many of the addresses below n have a sector. Assumes nothing.
use mathlib.Core.Path.{◌≡◌}
use Prim.Native.Nat.{◌+◌, ◌≤◌}
use lib.ListN.{length}
use Rattle.opening.specs.Images.{held}
use Rattle.pairs.specs.Sectors.{written_in}
use Rattle.pairs.proofs.Written.{rest}
use Rattle.pairs.proofs.pair.Pair.count_written.Given as goal

abbrev pub invariant-loop-n : goal.invariant-loop-n
invariant-loop-n l =
    (l.written ≤ l.n)
    × (l.written + length (rest l.self.child.bytes.now l.self.parent.bytes.now (held l.self.child).count l.n) ≡ length (written_in l.self))
