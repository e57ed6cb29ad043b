use native.Mathlib.Omega.{arith}
use Rattle.storing.proofs.Pass.{starts, turns, goes, ends}
use Rattle.storing.proofs.put_entries.Goals as goal

pub loop-a-init : goal.loop-a-init
loop-a-init c = starts _ _ _ _ _ _ _ _ c.requires.0

pub next_entry-n-requires : goal.next_entry-n-requires
next_entry-n-requires c =
    (turns _ _ _ _ _ _ _ _ c.requires.0 c.loop-a.invariant (omega arith), c.requires.1)

pub overflow_mul-a : goal.overflow_mul-a
overflow_mul-a c =
    let h = c.requires.0 in
    omega (arith, h.entries, h.short)

pub overflow_add-at : goal.overflow_add-at
overflow_add-at c =
    let h = c.requires.0 in
    omega (arith, h.entries, h.short)

pub put-requires : goal.put-requires
put-requires c =
    omega (arith, c.requires.0.entries, c.loop-a.invariant.long, c.next_entry-n.auto.buf)

pub loop-a-preserved : goal.loop-a-preserved
loop-a-preserved c =
    goes _ _ _ _ _ _ _ _ c.requires.0 c.loop-a.invariant (omega arith)
    c.next_entry-n.ensures c.put.ensures

pub shape_of-buf : goal.shape_of-buf
shape_of-buf c = c.loop-a.invariant.long

pub returns : goal.returns
returns c =
    ends _ _ _ _ _ _ _ _ c.requires.0 c.loop-a.invariant (omega arith)
