-- `tables::decode` meets its contract. Assumes nothing.
use Rattle.fields.proofs.Numbers.{one_shifted}
use Rattle.format.specs.Layouts.{decode}
use Rattle.tables.proofs.decode.Goals as goal

pub overflow_mul-result : goal.overflow_mul-result
overflow_mul-result c = rw (one_shifted _ c.requires.0, one_shifted _ c.requires.1) (record { fits = c.requires.2 })

pub returns : goal.returns
unfolding decode
returns c = rw (one_shifted _ c.requires.0, one_shifted _ c.requires.1)
