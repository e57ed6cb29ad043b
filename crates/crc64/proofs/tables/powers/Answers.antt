use mathlib.Core.Path.{ap, ◌∙◌}
use native.Mathlib.Omega.{arith}
use borrow.Author.Rules.{rules}
use Rattle.crc64.specs.Crc.{shift}
use Rattle.crc64.specs.Internal.{power}
use Rattle.crc64.proofs.Fill.{filled_none, filled_more, power-next}
use Rattle.crc64.proofs.tables.powers.Goals as goal

pub loop-power-init : goal.loop-power-init
unfolding power
loop-power-init c = (c.shifts-x.ensures, filled_none power 64 _ (search rules))

pub loop-power-preserved : goal.loop-power-preserved
loop-power-preserved c =
    let l = c.loop-power in (
      c.shift-x.ensures ∙ ap shift l.invariant.0 ∙ power-next l.power-index,
      filled_more power 64 l.power-items l.power-index l.x (omega arith) l.invariant.1 l.invariant.0,
    )
