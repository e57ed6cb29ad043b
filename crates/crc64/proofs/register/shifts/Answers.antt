use mathlib.Core.Path.{◌≡◌, ap, ◌∙◌}
use Prim.Native.Nat.{ℕ, suc, ◌-◌, ◌+◌}
use native.Mathlib.Omega.{arith}
use Rattle.crc64.specs.Crc.{shifts}
use Rattle.crc64.proofs.register.shifts.Goals as goal

pub loop-i-preserved : goal.loop-i-preserved
unfolding shifts
loop-i-preserved c =
    let l = c.loop-i in
    let n = c.args.n in
    let e : suc (n - (l._i + 1)) ≡ n - l._i = omega arith in
    ap (shifts (n - (l._i + 1))) c.shift-x.ensures ∙ ap (λ (k : ℕ). shifts k l.x) e ∙ l.invariant

pub returns : goal.returns
unfolding shifts
returns c =
    let l = c.loop-i in
    let e : 0 ≡ c.args.n - l._i = omega arith in
    ap (λ (k : ℕ). shifts k l.x) e ∙ l.invariant
