-- `register::shifts` meets its contract: the shifts that are left, of the present register, are all of the first. Assumes nothing.
use mathlib.Core.Path.{◌≡◌}
use Prim.Native.Nat.{◌-◌}
use Rattle.crc64.specs.Crc.{shifts}
use Rattle.crc64.proofs.register.shifts.Given as goal

abbrev pub invariant-loop-i : goal.invariant-loop-i
invariant-loop-i l = shifts (l.n - l._i) l.x ≡ shifts l.n l.register
