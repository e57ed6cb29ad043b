-- `sectors::item_verdict` meets its contract. Assumes nothing.
use mathlib.Core.Path.{◌≡◌, sym}
use Rattle.std.specs.Prelude.{Ok}
use Rattle.format.specs.Reading.{block_verdict, item_verdict}
use Rattle.format.proofs.Checks.{block-ok}
use Rattle.format.proofs.Chains.{early, stops, goes, stop-last, on-last, by}
use Rattle.sectors.proofs.item_verdict.Goals as goal
use Rattle.sectors.proofs.item_verdict.Goals.{In_ok-block_verdict}
use Rattle.format.specs.Facts.{BlockOk}

-- what is known once the block has passed
passes : (c : In_ok-block_verdict) → Ok tt ≡ block_verdict c.args.s.now c.args.p.block.0
passes c = c.in_ok-block_verdict.ensures

ok : (c : In_ok-block_verdict) → BlockOk c.args.s.now c.args.p.block.0
ok c = (block-ok _ _).0 (sym (passes c))

pub returns-in_err-block_verdict : goal.returns-in_err-block_verdict
unfolding item_verdict
returns-in_err-block_verdict c = early c.from_residual.ensures (stops _ c.in_err-block_verdict.ensures)

pub number_verdict-requires : goal.number_verdict-requires
number_verdict-requires c = ok (goal.at.number_verdict-requires c).In_ok-block_verdict

pub returns-in_err-number_verdict : goal.returns-in_err-number_verdict
unfolding item_verdict
returns-in_err-number_verdict c = early c.from_residual-in_err-number_verdict.ensures (goes (passes (goal.at.returns-in_err-number_verdict c).In_ok-block_verdict) (stops _ c.in_err-number_verdict.ensures))

pub block_sums_differ-requires : goal.block_sums_differ-requires
block_sums_differ-requires c = ok (goal.at.block_sums_differ-requires c).In_ok-block_verdict

pub returns-then-block_sums_differ : goal.returns-then-block_sums_differ
unfolding item_verdict
returns-then-block_sums_differ c =
    rw c.at.ensures
    (goes (passes (goal.at.returns-then-block_sums_differ c).In_ok-block_verdict)
    (goes c.in_ok-number_verdict.ensures (stop-last (by c.block_sums_differ.ensures c.if-block_sums_differ.true))))

pub returns : goal.returns
unfolding item_verdict
returns c =
    goes (passes (goal.at.returns c).In_ok-block_verdict)
    (goes c.in_ok-number_verdict.ensures (on-last _ (by c.block_sums_differ.ensures c.if-block_sums_differ.false)))
