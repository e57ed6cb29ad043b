-- `sectors::find` meets its contract. Assumes nothing.
use mathlib.Core.Path.{◌≡◌}
use native.Mathlib.Omega.{arith}
use Rattle.format.specs.Reading.{not_written, unknown_status, pointer_at, sector_verdict}
use Rattle.format.proofs.Chains.{early, stop, on, refuses, accepts, by}
use Rattle.opening.specs.Images.{held}
use Rattle.opening.proofs.Accepted.{entry-inside, decodes}
use Rattle.opening.proofs.Entries.{written_is, status-is, pointer_is}
use Rattle.sectors.proofs.find.Goals as goal
use Rattle.sectors.proofs.find.Goals.{After-decoded-p, After-is_unknown, After-is_unwritten}

-- what the entry says
unwritten : (c : After-is_unwritten) → let a = c.args in c.is_unwritten.result ≡ not_written a.image.bytes.now (held a.image) a.n.0
unwritten c = written_is _ _ _ c.table_entry-e.ensures c.is_unwritten.ensures

unknown : (c : After-is_unknown) → let a = c.args in c.is_unknown.result ≡ unknown_status a.image.bytes.now (held a.image) a.n.0
unknown c = status-is _ _ _ c.table_entry-e.ensures c.is_unknown.ensures

pointer : (c : After-decoded-p) → let a = c.args in c.decoded-p.result ≡ pointer_at a.image.bytes.now (held a.image) a.n.0
pointer c = pointer_is _ _ _ c.table_entry-e.ensures c.decoded-p.ensures

pub returns-then-is_unwritten : goal.returns-then-is_unwritten
unfolding sector_verdict
returns-then-is_unwritten c = rw c.of.ensures (refuses _ (stop _ (by (unwritten (goal.at.returns-then-is_unwritten c).After-is_unwritten) c.if-is_unwritten.true)))

pub returns-then-is_unknown : goal.returns-then-is_unknown
unfolding sector_verdict
returns-then-is_unknown c =
    rw c.of-then-is_unknown.ensures
    (refuses _ (on _ (by (unwritten (goal.at.returns-then-is_unknown c).After-is_unwritten) c.if-is_unwritten.false) (stop _ (by (unknown (goal.at.returns-then-is_unknown c).After-is_unknown) c.if-is_unknown.true))))

pub decoded-p-requires : goal.decoded-p-requires
decoded-p-requires c = decodes _ _ c.args.image.opens

pub entry_place-requires : goal.entry_place-requires
entry_place-requires c = let k = entry-inside _ _ c.args.image.opens _ c.requires.0 in omega arith

pub pointer_verdict-requires : goal.pointer_verdict-requires
pointer_verdict-requires c = c.requires.1

pub returns-in_err-pointer_verdict : goal.returns-in_err-pointer_verdict
unfolding sector_verdict
returns-in_err-pointer_verdict c =
    early c.from_residual.ensures (refuses _
    (on _ (by (unwritten (goal.at.returns-in_err-pointer_verdict c).After-is_unwritten) c.if-is_unwritten.false)
    (on _ (by (unknown (goal.at.returns-in_err-pointer_verdict c).After-is_unknown) c.if-is_unknown.false)
    (rw (pointer (goal.at.returns-in_err-pointer_verdict c).After-decoded-p, c.entry_place.ensures) at c.in_err-pointer_verdict.ensures))))

pub returns : goal.returns
unfolding sector_verdict
returns c =
    accepts
    (on _ (by (unwritten (goal.at.returns c).After-is_unwritten) c.if-is_unwritten.false)
    (on _ (by (unknown (goal.at.returns c).After-is_unknown) c.if-is_unknown.false)
    (rw (pointer (goal.at.returns c).After-decoded-p, c.entry_place.ensures) at c.in_ok-pointer_verdict.ensures)))
    (pointer (goal.at.returns c).After-decoded-p)
