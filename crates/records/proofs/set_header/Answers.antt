-- `records::set_header` meets its contract. Assumes nothing.
use Rattle.format.specs.Writing.{set_header}
use Rattle.records.proofs.set_header.Goals as goal

pub returns : goal.returns
unfolding set_header
returns c =
    rw (c.put-2.ensures, c.put.ensures)
