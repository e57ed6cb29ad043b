use native.Mathlib.Omega.{arith}
use Rattle.format.specs.Exporting.{gap_count}
use Rattle.format.proofs.Chains.{by}
use Rattle.opening.proofs.Entries.{written_is}
use Rattle.flat.proofs.Sectors.{counting-starts, counting-yes, counting-no, counting-done}
use Rattle.flat.proofs.count_gaps.Goals as goal
use Rattle.flat.proofs.count_gaps.Goals.{then-is_unwritten, else-is_unwritten}

pub loop-n-init : goal.loop-n-init
loop-n-init c = counting-starts _ _

pub overflow_add-gaps : goal.overflow_add-gaps
overflow_add-gaps c = let k = c.loop-n.invariant.few in omega arith

pub loop-n-preserved : goal.loop-n-preserved
loop-n-preserved c =
    let g = written_is _ _ _ c.table_entry.ensures c.is_unwritten.ensures in
    elim c.if-is_unwritten.branch [
      | then-is_unwritten w ↦ rw w.gaps-is (counting-yes _ _ c.loop-n.invariant (omega arith) (by g w.if-is_unwritten.true))
      | else-is_unwritten w ↦ rw w.gaps-is (counting-no _ _ c.loop-n.invariant (omega arith) (by g w.if-is_unwritten.false))
    ]

pub returns : goal.returns
unfolding gap_count
returns c = counting-done _ _ c.loop-n.invariant (omega arith)
