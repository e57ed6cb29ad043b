-- `storing::store_among` meets its contract. Assumes nothing.
use native.Mathlib.Omega.{arith}
use Prim.Native.Nat.{◌+◌, ◌*◌, ◌≤◌}
use lib.ListN.{length}
use Rattle.storing.proofs.Steps.{inside, few, again, room, fresh}
use Rattle.storing.proofs.store_among.Goals as goal
use Rattle.storing.proofs.store_among.Goals.{After-copy-arg-1}

pub among-requires : goal.among-requires
among-requires c = omega (arith, inside _ _ _ _ c.requires)

pub returns-in-Some : goal.returns-in-Some
returns-in-Some c =
    again _ _ _ _ c.requires c.among.ensures c.in-Some.is

-- the sector has room behind those that are stored
fits : (c : After-copy-arg-1)
    → (let s = c.args in
    s.block.0 + 36 + s.stored * length s.sector.now + length s.sector.now ≤ length s.buf.now)
fits c =
    room _ _ _ _ c.requires c.among.ensures c.in_default.is

pub overflow_mul-stored : goal.overflow_mul-stored
overflow_mul-stored c = omega (arith, fits (goal.at.overflow_mul-stored c).After-copy-arg-1)

pub overflow_add-start-2 : goal.overflow_add-start-2
overflow_add-start-2 c = omega (arith, fits (goal.at.overflow_add-start-2 c).After-copy-arg-1)

pub copy-requires : goal.copy-requires
copy-requires c = fits (goal.at.copy-requires c).After-copy-arg-1

pub overflow_add-result : goal.overflow_add-result
overflow_add-result c =
    let h = c.requires in
    omega (arith, few _ _ _ _ h, h.short)

pub returns : goal.returns
returns c =
    fresh _ _ _ _ c.requires c.among.ensures c.in_default.is c.copy.ensures
