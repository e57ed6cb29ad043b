-- `register::update` meets its contract: what is left, into the present register, is all into the first. Assumes nothing.
use mathlib.Core.Path.{◌≡◌}
use lib.ListN.{drop}
use Rattle.crc64.specs.Crc.{run}
use Rattle.crc64.proofs.register.update.Given as goal

abbrev pub invariant-loop-b : goal.invariant-loop-b
invariant-loop-b l = run l.x (drop l.b-index l.s) ≡ run l.register l.s
