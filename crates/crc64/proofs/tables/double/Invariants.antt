-- `tables::double` meets its contract: the entries below 256 k + 2^j + m are filled in. Assumes nothing.
use mathlib.Core.Path.{◌≡◌}
use Prim.Native.Nat.{◌+◌, ◌*◌, ◌^◌, ◌≤◌}
use Rattle.crc64.specs.Internal.{entry, Filled}
use Rattle.crc64.proofs.tables.double.Given as goal

abbrev pub invariant-loop-m : goal.invariant-loop-m
invariant-loop-m l = (l.half ≡ 2 ^ l.j) × (l.half ≤ 128) × Filled entry 2048 l.t (256 * l.k + l.half + l.m)
