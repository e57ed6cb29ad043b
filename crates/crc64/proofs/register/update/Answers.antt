use mathlib.Core.Path.{sym, ap, ◌∙◌}
use Prim.Native.Nat.{ℕ, ◌+◌}
use native.Mathlib.Omega.{arith}
use lib.ListN.{drop}
use Rattle.crc64.proofs.Run.{run-next, run-done}
use Rattle.crc64.specs.Crc.{run}
use Rattle.crc64.proofs.register.update.Goals as goal

pub loop-b-preserved : goal.loop-b-preserved
loop-b-preserved c =
    let s = c.args.s.now in
    let l = c.loop-b in
    ap (λ (x : ℕ). run x (drop (l.b-index + 1) s)) c.add_byte-x.ensures ∙ sym (run-next l.x s l.b-index (omega arith)) ∙ l.invariant

pub returns : goal.returns
returns c = sym (run-done c.loop-b.x c.args.s.now c.loop-b.b-index (omega arith)) ∙ c.loop-b.invariant
