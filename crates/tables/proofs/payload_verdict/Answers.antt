-- `tables::payload_verdict` meets its contract. Assumes nothing.
use mathlib.Core.Path.{◌≡◌}
use native.Mathlib.Omega.{arith}
use Rattle.crc64.specs.Crc.{crc_of}
use Rattle.format.specs.Layouts.{table_length, table_payload, table_cmp_crc64, table_crc64}
use Rattle.format.specs.Opening.{sums_differ, payload_verdict}
use Rattle.format.proofs.Tests.{below_true, below-iff}
use Rattle.format.proofs.Chains.{stop, on, stop-last, on-last, by}
use Rattle.tables.proofs.payload_verdict.Goals as goal
use Rattle.tables.proofs.payload_verdict.Goals.{After-get-length, After-sums_differ}

-- the length, as the header has it
long : (c : After-get-length)
    → let a = c.args in
    c.get-length.result ≡ table_length a.s.now a.kind a.t.0
long c = rw c.layout_of-l.ensures.entries at c.get-length.ensures

-- what the call that sums the payload answers
sums : (c : After-sums_differ)
    → let a = c.args in
    c.sums_differ.result ≡ sums_differ (crc_of (table_payload a.s.now a.kind a.t.0)) (table_cmp_crc64 a.s.now a.kind a.t.0) (table_crc64 a.s.now a.kind a.t.0)
sums c =
    let l = c.layout_of-l.ensures in
    let e = rw l.entries at c.get-length.ensures in
    rw (c.part.ensures, c.get.ensures, c.get-2.ensures, e, l.header, l.entries) at c.sums_differ.ensures

pub returns-then-room-length : goal.returns-then-room-length
unfolding payload_verdict
returns-then-room-length c = rw c.at.ensures (let e = long (goal.at.returns-then-room-length c).After-get-length in stop _ (below_true _ _ (omega arith)))

pub returns-then-sums_differ : goal.returns-then-sums_differ
unfolding payload_verdict
returns-then-sums_differ c =
    rw c.at-then-sums_differ.ensures
    (let e = long (goal.at.returns-then-sums_differ c).After-get-length in on _ (below-iff.1 (omega arith)) (stop-last (by (sums (goal.at.returns-then-sums_differ c).After-sums_differ) c.if-sums_differ.true)))

pub returns : goal.returns
unfolding payload_verdict
returns c = let e = long (goal.at.returns c).After-get-length in on _ (below-iff.1 (omega arith)) (on-last _ (by (sums (goal.at.returns c).After-sums_differ) c.if-sums_differ.false))
