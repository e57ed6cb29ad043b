-- `fields::part` meets its contract. Assumes nothing.
use native.Mathlib.Nat.{add-sub_cancel_left}
use Rattle.fields.specs.Bytes.{part}
use Rattle.fields.proofs.part.Goals as goal

pub returns : goal.returns
unfolding part
returns c = rw add-sub_cancel_left
