-- `register::add_byte` meets its contract. Assumes nothing.
use Rattle.crc64.specs.Crc.{add_byte}
use Rattle.crc64.proofs.register.add_byte.Goals as goal

pub returns : goal.returns
unfolding add_byte
returns c = c.shifts.ensures
