-- `aaru::locate` meets its contract. Assumes nothing.
use Rattle.aaru.proofs.locate.Goals as goal

pub returns : goal.returns
returns c = c.locate_in.ensures
