use mathlib.Core.Path.{ap}
use native.Mathlib.Omega.{arith}
use Rattle.format.specs.Flattening.{size_of}
use Rattle.pairs.proofs.Written.{rest_all, size-found, size-goes, size-done}
use Rattle.pairs.proofs.pair.Pair.size.Goals as goal

pub loop-n-init : goal.loop-n-init
loop-n-init c = ap size_of (rest_all _ _ _ c.args.self.child.opens)

pub returns-then-size-gt0 : goal.returns-then-size-gt0
returns-then-size-gt0 c = size-found _ _ _ _ (omega arith) _ c.sector.ensures c.loop-n.invariant (omega (arith, c.if-size-gt0.true))

pub loop-n-preserved : goal.loop-n-preserved
loop-n-preserved c =
    size-goes _ _ _ _ (omega arith) _ c.sector.ensures c.loop-n.invariant (omega (arith, c.if-size-gt0.false))

pub returns : goal.returns
returns c = size-done _ _ _ _ (omega arith) c.loop-n.invariant
