use mathlib.Core.Path.{refl}
use Prim.Native.Nat.{◌+◌}
use native.Mathlib.Omega.{arith}
use Rattle.format.specs.Layouts.{entry_count}
use Rattle.format.proofs.Chains.{by}
use Rattle.index.proofs.Entries.{start, turn}
use Rattle.indexing.proofs.Turns.{Counting, count-starts, count-skips, count-keeps, count-ends}
use Rattle.indexing.proofs.count_kept.Goals as goal

pub loop-i-init : goal.loop-i-init
loop-i-init c =
    let s = c.args.index.bytes.now in
    let o = c.args.index.at.0 in
    start (λ k p. Counting s o k p 0) (entry_count s o) o (count-starts _ _ _ refl c.args.index.inside)

pub loop-i-preserved-then-is_checksums : goal.loop-i-preserved-then-is_checksums
loop-i-preserved-then-is_checksums c =
    let s = c.args.index.bytes.now in
    let o = c.args.index.at.0 in
    turn (λ k p. Counting s o k p c.loop-i.kept) (entry_count s o) o c.loop-i.i
    (count-skips c.loop-i.invariant (omega arith) (by (rw c.entry.ensures at c.is_checksums.ensures) c.if-is_checksums.true))

pub loop-i-preserved : goal.loop-i-preserved
loop-i-preserved c =
    let s = c.args.index.bytes.now in
    let o = c.args.index.at.0 in
    turn (λ k p. Counting s o k p (c.loop-i.kept + 1)) (entry_count s o) o c.loop-i.i
    (count-keeps c.loop-i.invariant (omega arith) (by (rw c.entry.ensures at c.is_checksums.ensures) c.if-is_checksums.false))

pub returns : goal.returns
returns c = (count-ends c.loop-i.invariant (omega arith), omega (arith, c.loop-i.invariant.few))
