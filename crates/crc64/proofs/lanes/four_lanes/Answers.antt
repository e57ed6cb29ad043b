use mathlib.Core.Path.{◌≡◌, sym, ap, ap₂, ◌∙◌}
use Prim.Native.Nat.{◌+◌, ◌*◌}
use native.Mathlib.Omega.{arith}
use lib.Bits.{bit_xor}
use Rattle.crc64.specs.Internal.{joined}
use Rattle.crc64.proofs.Joined.{lanes_start, lanes_next}
use Rattle.crc64.proofs.Run.{run-done}
use Rattle.crc64.proofs.lanes.four_lanes.Goals as goal

pub loop-i-init : goal.loop-i-init
loop-i-init c =
    let g = c.args in
    lanes_start g.s.now (λ j. (c.type_inv.s j).fits) 0 (omega arith) g.register
    (ap (bit_xor g.register) c.word_at.ensures)
    c.word_at-b.ensures
    c.word_at-c.ensures
    c.word_at-d.ensures

pub loop-i-preserved : goal.loop-i-preserved
loop-i-preserved c =
    let l = c.loop-i in
    let s = c.args.s.now in
    let next : 32 * (l.i + 1) ≡ 32 * l.i + 32 = omega arith in
    rw next
    (lanes_next s (λ j. (c.type_inv.s j).fits) (32 * l.i) (omega arith) l.a l.b l.c l.d
    (ap₂ bit_xor c.lane.ensures c.word_at-in-loop-i.ensures)
    (ap₂ bit_xor c.lane-in-loop-i.ensures c.word_at-in-loop-i-2.ensures)
    (ap₂ bit_xor c.lane-in-loop-i-2.ensures c.word_at-in-loop-i-3.ensures)
    (ap₂ bit_xor c.lane-in-loop-i-3.ensures c.word_at-in-loop-i-4.ensures)
    ∙ l.invariant)

pub returns : goal.returns
returns c =
    let l = c.loop-i in
    c.join.ensures ∙ sym (run-done (joined l.a l.b l.c l.d) c.args.s.now (32 * l.i) (omega arith)) ∙ l.invariant
