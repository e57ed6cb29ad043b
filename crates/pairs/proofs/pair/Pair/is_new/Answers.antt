use mathlib.Core.Bool.{true, false}
use mathlib.Core.Path.{◌∙◌}
use native.Mathlib.Omega.{arith}
use Rattle.pairs.proofs.Written.{held_none, held_found, held-goes, new_is}
use Rattle.pairs.proofs.pair.Pair.is_new.Goals as goal

pub returns-then-is_same : goal.returns-then-is_same
returns-then-is_same c =
    new_is _ _ _ _ true c.sector-own.ensures c.loop-below.invariant
    (held_found _ _ _ (omega arith) c.sector-other.ensures c.is_same.ensures c.if-is_same.true)

pub loop-below-preserved : goal.loop-below-preserved
loop-below-preserved c = held-goes _ _ _ (omega arith) c.sector-other.ensures c.is_same.ensures c.if-is_same.false ∙ c.loop-below.invariant

pub returns : goal.returns
returns c = new_is _ _ _ _ false c.sector-own.ensures c.loop-below.invariant (held_none _ _ _ (omega arith))
