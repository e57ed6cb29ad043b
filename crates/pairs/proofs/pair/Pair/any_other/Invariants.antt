-- `pairs::Pair::any_other` meets its contract. The invariant: the sectors below n have this size. Assumes nothing.
use mathlib.Core.Path.{◌≡◌}
use Rattle.format.specs.Flattening.{any_other}
use Rattle.opening.specs.Images.{held}
use Rattle.pairs.specs.Sectors.{written_in}
use Rattle.pairs.proofs.Written.{rest}
use Rattle.pairs.proofs.pair.Pair.any_other.Given as goal

abbrev pub invariant-loop-n : goal.invariant-loop-n
invariant-loop-n l =
    any_other l.size (rest l.self.child.bytes.now l.self.parent.bytes.now (held l.self.child).count l.n) ≡ any_other l.size (written_in l.self)
