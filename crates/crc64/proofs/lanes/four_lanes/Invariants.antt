-- `lanes::four_lanes` meets its contract: what is left, into the joined register, is all into the first. Assumes nothing.
use mathlib.Core.Path.{◌≡◌}
use Prim.Native.Nat.{◌*◌}
use lib.ListN.{drop}
use Rattle.crc64.specs.Crc.{run}
use Rattle.crc64.specs.Internal.{joined}
use Rattle.crc64.proofs.lanes.four_lanes.Given as goal

abbrev pub invariant-loop-i : goal.invariant-loop-i
invariant-loop-i l = run (joined l.a l.b l.c l.d) (drop (32 * l.i) l.s) ≡ run l.register l.s
