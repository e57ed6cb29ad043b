-- `register::shift` meets its contract: by the bit that falls out. Assumes nothing.
use mathlib.Core.Path.{◌≡◌}
use Prim.Native.Nat.{◌%◌}
use native.Mathlib.Omega.{arith}
use Rattle.crc64.specs.Crc.{shift, reduce}
use Rattle.crc64.proofs.register.shift.Goals as goal

pub returns-then-register-eq1 : goal.returns-then-register-eq1
unfolding shift reduce
returns-then-register-eq1 c = rw c.if-register-eq1.true

pub returns-else-register-eq1 : goal.returns-else-register-eq1
unfolding shift reduce
returns-else-register-eq1 c = let e : c.args.register % 2 ≡ 0 = omega arith in rw e
