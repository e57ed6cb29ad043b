-- `pairs::Pair::size` meets its contract. The invariant: the addresses below n have no sector. Assumes nothing.
use mathlib.Core.Path.{◌≡◌}
use Rattle.format.specs.Flattening.{size_of}
use Rattle.opening.specs.Images.{held}
use Rattle.pairs.specs.Sectors.{written_in}
use Rattle.pairs.proofs.Written.{rest}
use Rattle.pairs.proofs.pair.Pair.size.Given as goal

abbrev pub invariant-loop-n : goal.invariant-loop-n
invariant-loop-n l = size_of (rest l.self.child.bytes.now l.self.parent.bytes.now (held l.self.child).count l.n) ≡ size_of (written_in l.self)
