-- `planning::is_new` meets its contract. Assumes nothing.
use native.Mathlib.Omega.{arith}
use Rattle.planning.proofs.Looking.{earlier-inside, new-if-none}
use Rattle.planning.proofs.is_new.Goals as goal

pub among-requires : goal.among-requires
among-requires c = omega (arith, earlier-inside _ _ _ c.requires _ c.part-sector.ensures)

pub returns : goal.returns
returns c =
    new-if-none _ _ _ c.requires _ c.part-sector.ensures _ c.among.ensures c.is_none.ensures
