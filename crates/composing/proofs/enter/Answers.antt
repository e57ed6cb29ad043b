-- `composing::enter` meets its contract. Assumes nothing.
use native.Mathlib.Omega.{arith}
use Rattle.composing.proofs.Entries.{entered-none, entry-encodes, entered-some}
use Rattle.composing.proofs.enter.Goals as goal

-- in what follows h is what is asked for
pub overflow_add-place : goal.overflow_add-place
overflow_add-place c =
    let h = c.requires in
    omega (arith, h.entry, h.short)

pub overflow_mul-place : goal.overflow_mul-place
overflow_mul-place c =
    let h = c.requires in
    omega (arith, h.entry, h.short)

pub overflow_add-place-2 : goal.overflow_add-place-2
overflow_add-place-2 c =
    let h = c.requires in
    omega (arith, h.entry, h.short)

pub put-requires : goal.put-requires
put-requires c = omega (arith, c.requires.entry)

pub returns-then-sector-eq0 : goal.returns-then-sector-eq0
returns-then-sector-eq0 c = entered-none c.if-sector-eq0.true c.put.ensures

pub store_among-step-requires : goal.store_among-step-requires
store_among-step-requires c = c.requires.step c.if-sector-eq0.false

pub encode-entry-requires : goal.encode-entry-requires
encode-entry-requires c =
    let h = c.requires in
    entry-encodes h c.if-sector-eq0.false c.store_among-step.ensures

pub put-requires-2 : goal.put-requires-2
put-requires-2 c =
    let h = c.requires in
    omega (arith, h.entry, c.store_among-step.auto.buf)

pub returns : goal.returns
returns c =
    let h = c.requires in
    entered-some h c.if-sector-eq0.false c.store_among-step.ensures c.encode-entry.ensures c.put-2.ensures
