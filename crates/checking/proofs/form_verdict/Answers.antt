-- `checking::form_verdict` meets its contract. Assumes nothing.
use mathlib.Core.Bool.{true, not}
use mathlib.Core.Path.{◌≡◌, sym, ap}
use Rattle.format.specs.Reading.{has}
use Rattle.format.specs.Facts.{BlockOk}
use Rattle.format.proofs.Checks.{block-ok}
use Rattle.format.proofs.Tests.{not_iff}
use Rattle.format.proofs.Chains.{early, stop, on, stops, goes, by}
use Rattle.sectors.proofs.Known.{known-block}
use Rattle.checking.specs.Checked.{indexed, form_verdict}
use Rattle.checking.proofs.form_verdict.Goals as goal
use Rattle.checking.proofs.form_verdict.Goals.{Then-is_known}

-- the block that is known
known : (c : Then-is_known) → let a = c.args in
    (has a.p.block.0 (indexed a.image.bytes.now) ≡ true) × BlockOk a.image.bytes.now a.p.block.0
known c =
    let s = c.args.image.bytes.now in
    known-block (λ b. (has b (indexed s) ≡ true) × BlockOk s b) _ _ c.requires (by c.is_known.ensures c.if-is_known.true)

pub number_verdict-requires : goal.number_verdict-requires
number_verdict-requires c = (known (goal.at.number_verdict-requires c).Then-is_known).1

pub returns-then-is_known : goal.returns-then-is_known
unfolding form_verdict
returns-then-is_known c =
    let k = known (goal.at.returns-then-is_known c).Then-is_known in
    on _ (not_iff.1 k.0) (goes (sym ((block-ok _ _).1 k.1)) c.number_verdict.ensures)

pub returns-in_err-block_verdict : goal.returns-in_err-block_verdict
unfolding form_verdict
returns-in_err-block_verdict c =
    early c.from_residual.ensures (on _ (not_iff.1 (rw (c.index.ensures.bytes, c.index.ensures.at) at (by c.is_indexed.ensures c.if-is_indexed.true)))
    (stops _ c.in_err-block_verdict.ensures))

pub number_verdict-requires-then-is_indexed : goal.number_verdict-requires-then-is_indexed
number_verdict-requires-then-is_indexed c = (block-ok _ _).0 (sym c.in_ok-block_verdict.ensures)

pub returns-then-is_indexed : goal.returns-then-is_indexed
unfolding form_verdict
returns-then-is_indexed c =
    on _ (not_iff.1 (rw (c.index.ensures.bytes, c.index.ensures.at) at (by c.is_indexed.ensures c.if-is_indexed.true)))
    (goes c.in_ok-block_verdict.ensures c.number_verdict-then-is_indexed.ensures)

pub returns : goal.returns
unfolding form_verdict
returns c = rw c.at.ensures (stop _ (ap not (rw (c.index.ensures.bytes, c.index.ensures.at) at (by c.is_indexed.ensures c.if-is_indexed.false))))
