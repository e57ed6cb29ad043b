use native.Mathlib.Omega.{arith}
use Rattle.flat.proofs.Sectors.{sizing-starts, sizing-goes, sizing-found, sizing-none}
use Rattle.flat.proofs.flat_size.Goals as goal

pub loop-n-init : goal.loop-n-init
loop-n-init c = sizing-starts _ _

pub returns-in-Some : goal.returns-in-Some
returns-in-Some c =
    sizing-found _ _ c.loop-n.invariant (omega arith) c.in-Some.ensures

pub loop-n-preserved : goal.loop-n-preserved
loop-n-preserved c =
    sizing-goes _ _ c.loop-n.invariant (omega arith) c.in_default.ensures

pub returns : goal.returns
returns c = sizing-none _ _ c.loop-n.invariant (omega arith)
