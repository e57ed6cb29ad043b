-- `lanes::join` meets its contract: the four calls make what is defined. Assumes nothing.
use mathlib.Core.Path.{ap, ◌∙◌}
use Prim.Native.Nat.{ℕ}
use lib.Bits.{bit_xor}
use Rattle.crc64.specs.Crc.{shifts}
use Rattle.crc64.specs.Internal.{joined}
use Rattle.crc64.proofs.lanes.join.Goals as goal

pub returns : goal.returns
unfolding joined
returns c =
    let x = c.args in
    c.shifts-4.ensures
    ∙ ap (λ (r : ℕ). shifts 64 (bit_xor r x.d))
    (c.shifts-3.ensures
    ∙ ap (λ (r : ℕ). shifts 64 (bit_xor r x.c))
    (c.shifts-2.ensures ∙ ap (λ (r : ℕ). shifts 64 (bit_xor r x.b)) c.shifts.ensures))
