-- `tables::powers` meets its contract: the powers below n are filled in, and the register is the next. Assumes nothing.
use mathlib.Core.Path.{◌≡◌}
use Rattle.crc64.specs.Internal.{power, Filled}
use Rattle.crc64.proofs.tables.powers.Given as goal

abbrev pub invariant-loop-power : goal.invariant-loop-power
invariant-loop-power l = (l.x ≡ power l.power-index) × Filled power 64 l.power-items l.power-index
