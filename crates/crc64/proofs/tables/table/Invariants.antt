-- `tables::table` meets its contract: the entries below 256 k + 2^j are filled in. Assumes nothing.
use Prim.Native.Nat.{◌+◌, ◌*◌, ◌^◌}
use Rattle.crc64.specs.Internal.{entry, Filled}
use Rattle.crc64.proofs.tables.table.Given as goal

abbrev pub invariant-loop-j : goal.invariant-loop-j
invariant-loop-j l = Filled entry 2048 l.t (256 * l.k + 2 ^ l.j)
