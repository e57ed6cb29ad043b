use mathlib.Core.Logic.{⊎_elim}
use mathlib.Core.Path.{ap}
use native.Mathlib.Omega.{arith}
use Rattle.format.specs.Flattening.{any_other}
use Rattle.pairs.proofs.Written.{rest_all, other-found, other_goes, other_none, other-done}
use Rattle.pairs.proofs.pair.Pair.any_other.Goals as goal

pub loop-n-init : goal.loop-n-init
loop-n-init c = ap (any_other _) (rest_all _ _ _ c.args.self.child.opens)

pub returns-then-other-size : goal.returns-then-other-size
returns-then-other-size c =
    other-found _ _ _ _ (omega arith) _ c.sector.ensures _ c.loop-n.invariant (omega (arith, c.if-other-gt0.true)) c.if-other-size.true

pub loop-n-preserved : goal.loop-n-preserved
loop-n-preserved c =
    let g = c.loop-n.invariant in
    ⊎_elim
    (λ h. other_goes _ _ _ _ (omega arith) _ c.sector.ensures _ g h.0 h.1)
    (λ h. other_none _ _ _ _ (omega arith) _ c.sector.ensures _ g h)
    c.else-other-gt0.either

pub returns : goal.returns
returns c = other-done _ _ _ _ (omega arith) _ c.loop-n.invariant
