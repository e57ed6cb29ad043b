use native.Mathlib.Omega.{arith}
use Rattle.composing.proofs.Entries.{going-starts, going-long, going_done, going-enters, going-entered}
use Rattle.importing.proofs.File.{sector-inside}
use Rattle.importing.proofs.put_entries.Goals as goal

pub loop-a-init : goal.loop-a-init
loop-a-init c = going-starts c.requires.1

pub overflow_mul-a : goal.overflow_mul-a
overflow_mul-a c = omega (arith, sector-inside c.requires.0 c.loop-a-test.true)

pub part-sector-requires : goal.part-sector-requires
part-sector-requires c = sector-inside c.requires.0 c.loop-a-test.true

pub enter-stored-requires : goal.enter-stored-requires
enter-stored-requires c =
    going-enters c.requires.1 c.loop-a.invariant c.loop-a-test.true c.part-sector.ensures

pub loop-a-preserved : goal.loop-a-preserved
loop-a-preserved c =
    going-entered c.requires.1 c.loop-a.invariant c.loop-a-test.true c.part-sector.ensures c.enter-stored.ensures

pub shape_of-buf : goal.shape_of-buf
shape_of-buf c = going-long c.requires.1 c.loop-a.invariant

pub returns : goal.returns
returns c = going_done c.requires.1 c.loop-a.invariant c.loop-a-test.false
