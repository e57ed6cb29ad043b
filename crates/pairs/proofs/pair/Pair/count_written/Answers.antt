use native.Mathlib.Omega.{arith}
use Rattle.pairs.proofs.Written.{many-all, many-some, many-none, many-done}
use Rattle.pairs.proofs.pair.Pair.count_written.Goals as goal
use Rattle.pairs.proofs.pair.Pair.count_written.Goals.{then-sector-gt0, else-sector-gt0}

pub loop-n-init : goal.loop-n-init
loop-n-init c = (omega arith, many-all _ _ _ c.args.self.child.opens)

pub loop-n-preserved : goal.loop-n-preserved
loop-n-preserved c =
    let g = c.loop-n.invariant in
    elim c.if-sector-gt0.branch [
      | then-sector-gt0 w ↦
          (omega (arith, g.0, w.written-is), rw w.written-is (many-some _ _ _ _ (omega arith) _ c.sector.ensures _ g.1 (omega (arith, w.if-sector-gt0.true))))
      | else-sector-gt0 w ↦
          (omega (arith, g.0, w.written-is), rw w.written-is (many-none _ _ _ _ (omega arith) _ c.sector.ensures _ g.1 (omega (arith, w.if-sector-gt0.false))))
    ]

pub returns : goal.returns
returns c = many-done _ _ _ _ (omega arith) _ c.loop-n.invariant.1
