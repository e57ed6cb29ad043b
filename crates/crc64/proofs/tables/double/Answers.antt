use Prim.Native.Nat.{◌*◌, ◌%◌, ◌^◌}
use native.Mathlib.Omega.{arith}
use Rattle.crc64.proofs.Fill.{filled-bit}
use Rattle.crc64.proofs.tables.double.Goals as goal

pub loop-m-preserved : goal.loop-m-preserved
loop-m-preserved c =
    let l = c.loop-m in
    let g = c.args in
    let half = (1 * 2 ^ g.j) % 2 ^ 64 in
    (l.invariant.0, l.invariant.1, filled-bit l.t g.k g.j half l.m g.x (omega arith) c.requires.x_value l.invariant.2)
