use mathlib.Core.Path.{◌≡◌, refl}
use Prim.Native.Nat.{◌+◌}
use native.Mathlib.Omega.{arith}
use Rattle.format.specs.Layouts.{index_header_length, entry_count, entries_from, entries}
use Rattle.format.specs.Opening.{entries_verdict, offsets_with, is_table}
use Rattle.format.proofs.Chains.{early-as, stops, refuses, answers}
use Rattle.index.specs.Tables.{one_answer, before, only_one}
use Rattle.index.proofs.Entries.{start, turn, verdict-stops, verdict-goes, verdict-done, one-goes, one_none, one_single, one-many}
use Rattle.index.proofs.one_table.Goals as goal

pub loop-i-init : goal.loop-i-init
unfolding before entries
loop-i-init c =
    let s = c.args.index.bytes.now in
    let o = c.args.index.at.0 in
    let n = entry_count s o in (
      start (λ k p. entries_verdict s k p ≡ entries_verdict s n (o + index_header_length)) n o refl,
      start (λ k p. one_answer o (offsets_with is_table (entries_from s k p)) ≡ one_answer o (offsets_with is_table (entries s o))) n o refl,
    )

pub returns-in_err-entry_verdict : goal.returns-in_err-entry_verdict
unfolding only_one
returns-in_err-entry_verdict c =
    let v = rw c.place.ensures at c.in_err-entry_verdict.ensures in
    early-as only_one c.from_residual.ensures (refuses _ (stops _ (verdict-stops _ _ _ c.loop-i.invariant.0 (omega arith) v)))

pub loop-i-preserved : goal.loop-i-preserved
loop-i-preserved c =
    let s = c.args.index.bytes.now in
    let o = c.args.index.at.0 in
    let n = entry_count s o in
    let l = c.loop-i.invariant in
    let e = c.entry-e.ensures in
    let v = rw c.place.ensures at c.in_ok-entry_verdict.ensures in (
      turn (λ k p. entries_verdict s k p ≡ entries_verdict s n (o + index_header_length)) n o c.loop-i.i
          (verdict-goes _ _ _ l.0 (omega arith) v),
      turn (λ k p. one_answer o (before c.with_entry-seen.result (offsets_with is_table (entries_from s k p))) ≡ one_answer o (offsets_with is_table (entries s o))) n o c.loop-i.i
          (one-goes _ _ _ _ _ l.1 _ (omega arith) (λ z. rw (← e) (c.with_entry-seen.ensures _ z))),
    )

pub returns-in-None : goal.returns-in-None
unfolding only_one
returns-in-None c =
    let l = c.loop-i.invariant in
    rw c.at.ensures (answers _ _ (verdict-done _ _ _ l.0 (omega arith)) (one_none _ _ _ _ _ l.1 (omega arith) c.in-None.is))

pub returns-in-One : goal.returns-in-One
unfolding only_one
returns-in-One c =
    let l = c.loop-i.invariant in
    answers _ _ (verdict-done _ _ _ l.0 (omega arith)) (one_single _ _ _ _ _ l.1 _ (omega arith) c.in-One.is)

pub returns-in-More : goal.returns-in-More
unfolding only_one
returns-in-More c =
    let l = c.loop-i.invariant in
    rw c.at-in-More.ensures (answers _ _ (verdict-done _ _ _ l.0 (omega arith)) (one-many _ _ _ _ _ l.1 (omega arith) c.in-More.is))
