-- `fields::get_short` meets its contract. Assumes nothing.
use native.Mathlib.Omega.{arith}
use native.Mathlib.Numerals.{add-one}
use Rattle.fields.proofs.Numbers.{field-zero, field_step}
use Rattle.fields.proofs.get_short.Goals as goal

pub returns : goal.returns
returns c = rw (field_step, field_step, field-zero, ← add-one c.args.at) (omega (arith, c.from_le_bytes.ensures))
