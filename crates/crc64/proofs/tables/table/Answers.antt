use mathlib.Core.Path.{◌∙◌}
use Prim.Native.Nat.{◌-◌, ◌+◌, ◌*◌}
use native.Mathlib.Omega.{arith}
use Rattle.crc64.specs.Internal.{entry}
use Rattle.crc64.proofs.Fill.{filled_more, entry_zero, power-is}
use Rattle.crc64.proofs.tables.table.Goals as goal

pub loop-j-init : goal.loop-j-init
loop-j-init c = filled_more entry 2048 _ (256 * c.args.k) 0 (omega arith) c.requires.below_filled (entry_zero c.args.k)

pub double-requires-clause-x_value : goal.double-requires-clause-x_value
double-requires-clause-x_value c =
    let j = c.loop-j.j in
    let k = c.args.k in
    c.requires.powers_filled.at (8 * k + 7 - j) (omega arith) ∙ power-is k j (omega arith)
