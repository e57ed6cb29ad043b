-- `fields::get` meets its contract. The invariant: the bytes from `at + i` on are read. Assumes nothing.
use mathlib.Core.Path.{◌≡◌}
use Prim.Native.Nat.{◌+◌, ◌-◌, ◌^◌, ◌<◌}
use Rattle.fields.specs.Bytes.{field}
use Rattle.fields.proofs.get.Given as goal

abbrev pub invariant-loop-i : goal.invariant-loop-i
invariant-loop-i l = (l.acc ≡ field l.s (l.at + l.i) (l.k - l.i)) × (l.acc < 256 ^ (l.k - l.i))
