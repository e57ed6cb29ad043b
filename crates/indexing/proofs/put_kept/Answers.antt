use Prim.Native.Nat.{◌+◌}
use native.Mathlib.Omega.{arith}
use mathlib.Core.Path.{ap, ◌∙◌}
use lib.ListN.{length}
use Rattle.fields.proofs.Overwrite.{length_part}
use Rattle.format.specs.Layouts.{entry_count}
use Rattle.format.proofs.Chains.{by}
use Rattle.index.proofs.Entries.{start, turn}
use Rattle.indexing.proofs.Turns.{Putting, put-starts, put-skips, put_keeps, put-room, put-ends}
use Rattle.indexing.proofs.put_kept.Goals as goal

pub get-count-requires : goal.get-count-requires
get-count-requires c = (omega (arith, ap length c.part.ensures ∙ length_part _ 0 _ (omega arith)), omega arith)

pub loop-i-init : goal.loop-i-init
unfolding entry_count
loop-i-init c =
    let a = c.args in
    start (λ k p. Putting a.buf.now a.used a.table.0 a.o.0 a.at.0 a.buf.now k p a.at.0) c.get-count.result a.o.0
    (put-starts _ _ _ _ _ _ (rw c.part.ensures at c.get-count.ensures) c.requires)

pub entry-e-requires : goal.entry-e-requires
entry-e-requires c =
    let i = c.loop-i.invariant in
    omega (arith, ap length c.part-in-loop-i.ensures ∙ length_part _ 0 _ (omega (arith, i.long)), i.inside)

pub put_entry-requires : goal.put_entry-requires
put_entry-requires c =
    put-room c.loop-i.invariant (omega arith) (rw c.part-in-loop-i.ensures at c.entry-e.ensures) (by c.is_checksums.ensures c.if-is_checksums.false)

pub overflow_add-q : goal.overflow_add-q
overflow_add-q c =
    let fits = put-room c.loop-i.invariant (omega arith) (rw c.part-in-loop-i.ensures at c.entry-e.ensures) (by c.is_checksums.ensures c.if-is_checksums.false) in
    omega (arith, fits, c.loop-i.invariant.long, c)

pub loop-i-preserved : goal.loop-i-preserved
loop-i-preserved c =
    let a = c.args in
    turn (λ k p. Putting a.buf.now a.used a.table.0 a.o.0 a.at.0 c.put_entry.new.buf k p (c.loop-i.q + 16)) c.get-count.result a.o.0 c.loop-i.i
    (put_keeps c.loop-i.invariant (omega arith) (rw c.part-in-loop-i.ensures at c.entry-e.ensures)
    (by c.is_checksums.ensures c.if-is_checksums.false) c.kept_entry.ensures c.put_entry.ensures)

pub loop-i-preserved-then-is_checksums : goal.loop-i-preserved-then-is_checksums
loop-i-preserved-then-is_checksums c =
    let a = c.args in
    turn (λ k p. Putting a.buf.now a.used a.table.0 a.o.0 a.at.0 c.loop-i.buf k p c.loop-i.q) c.get-count.result a.o.0 c.loop-i.i
    (put-skips c.loop-i.invariant (omega arith) (rw c.part-in-loop-i.ensures at c.entry-e.ensures)
    (by c.is_checksums.ensures c.if-is_checksums.true))

pub shape_of-buf : goal.shape_of-buf
shape_of-buf c = c.loop-i.invariant.long

pub returns : goal.returns
returns c = put-ends c.loop-i.invariant (omega arith)
