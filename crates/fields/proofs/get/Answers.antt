use Prim.Native.Nat.{ℕ, ◌+◌, ◌*◌, ◌-◌, ◌^◌, ◌≤◌, ◌<◌}
use native.Mathlib.Omega.{arith}
use native.Mathlib.Nat.{sub_self}
use lib.Dec.{lit<}
use mir.Val.{Fits}
use mir.Syntax.{w8, w64}
use Rattle.fields.proofs.Numbers.{field-zero, field-turn, pow-turn, pow_room}
use Rattle.fields.proofs.get.Goals as goal

-- a byte has room in 64 bits below a number of seven bytes or fewer
below : (n acc : ℕ) {b : ℕ} → n ≤ 7 → acc < 256 ^ n → Fits w8 b → Fits w64 (acc * 256 + b)
below n acc h l f = omega (arith, f, pow_room n acc h l)

pub loop-i-init : goal.loop-i-init
loop-i-init c = (rw (sub_self, field-zero), rw sub_self (lit< tt))

pub overflow_mul-acc : goal.overflow_mul-acc
overflow_mul-acc c = omega (arith, pow_room (c.args.k - c.loop-i.i) c.loop-i.acc (omega arith) c.loop-i.invariant.1)

pub overflow_add-acc-in-loop-i : goal.overflow_add-acc-in-loop-i
overflow_add-acc-in-loop-i c = below (c.args.k - c.loop-i.i) c.loop-i.acc (omega arith) c.loop-i.invariant.1 (c.type_inv.s _)

pub loop-i-preserved : goal.loop-i-preserved
loop-i-preserved c =
    let l = c.loop-i in
    (field-turn _ _ _ _ _ c.loop-i-test.true (omega arith) l.invariant.0, pow-turn _ _ _ _ c.loop-i-test.true (omega arith) l.invariant.1 (c.type_inv.s _).fits)
