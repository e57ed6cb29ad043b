use mathlib.Core.Path.{◌≡◌}
use native.Mathlib.Omega.{arith}
use borrow.Author.Count.{below_more}
use Rattle.format.specs.Reading.{not_written}
use Rattle.format.proofs.Chains.{by}
use Rattle.opening.specs.Images.{held}
use Rattle.opening.proofs.Entries.{written_is}
use Rattle.checking.proofs.Whole.{gap-first, no_gap}
use Rattle.checking.proofs.first_unwritten.Goals as goal
use Rattle.checking.proofs.first_unwritten.Goals.{After-is_unwritten}

pub loop-n-init : goal.loop-n-init
loop-n-init c = (omega arith, λ i l. absurd (omega arith))

pub table_entry-requires : goal.table_entry-requires
table_entry-requires c = omega (arith, c.requires.within)

gap : (c : After-is_unwritten)
    → let r = c.args in
    c.is_unwritten.result ≡ not_written r.image.bytes.now (held r.image) c.loop-n.n
gap c = written_is _ _ _ c.table_entry.ensures c.is_unwritten.ensures

pub returns-then-is_unwritten : goal.returns-then-is_unwritten
returns-then-is_unwritten c =
    rw c.of.ensures
    (gap-first _ _ c.requires _ (omega arith) c.loop-n.invariant.1 (by (gap (goal.at.returns-then-is_unwritten c).After-is_unwritten) c.if-is_unwritten.true))

pub loop-n-preserved : goal.loop-n-preserved
loop-n-preserved c =
    (omega arith, below_more _ _ c.loop-n.invariant.1 (by (gap (goal.at.loop-n-preserved c).After-is_unwritten) c.if-is_unwritten.false))

pub returns : goal.returns
returns c = no_gap _ _ c.requires (λ i h. c.loop-n.invariant.1 i (omega arith))
