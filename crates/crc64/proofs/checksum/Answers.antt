-- `checksum` meets its contract. Assumes nothing.
use mathlib.Core.Path.{ap}
use Prim.Native.Nat.{ℕ, ◌-◌}
use Rattle.crc64.specs.Crc.{crc_of, ones}
use Rattle.crc64.proofs.checksum.Goals as goal

pub returns : goal.returns
unfolding crc_of
returns c = ap (λ (x : ℕ). ones - x) c.update.ensures
