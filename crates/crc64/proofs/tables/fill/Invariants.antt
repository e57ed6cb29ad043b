-- `tables::fill` meets its contract: the first k tables are filled in. Assumes nothing.
use Prim.Native.Nat.{◌*◌}
use Rattle.crc64.specs.Internal.{entry, Filled}
use Rattle.crc64.proofs.tables.fill.Given as goal

abbrev pub invariant-loop-k : goal.invariant-loop-k
invariant-loop-k l = Filled entry 2048 l.t (256 * l.k)
