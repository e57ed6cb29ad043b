-- `composing::lay_out` meets its contract. Assumes nothing.
use native.Mathlib.Omega.{arith}
use mathlib.Core.Path.{refl}
use Prim.Native.Nat.{◌*◌, ◌≤◌}
use native.Mathlib.Nat.{mul-le-mul}
use Rattle.format.specs.Writing.{longest_buffer}
use Rattle.format.specs.Creating.{created_used, created_index_at}
use Rattle.composing.specs.Composes.{layout_of}
use Rattle.composing.proofs.lay_out.Goals as goal
use Rattle.composing.proofs.lay_out.Goals.{Start}

-- the sectors are not too long for a buffer
small : (c : Start) → c.args.stored * c.args.size ≤ longest_buffer
small c = mul-le-mul c.requires.2 c.requires.1

pub overflow_mul-table : goal.overflow_mul-table
overflow_mul-table c = omega (arith, small (goal.at.overflow_mul-table c).Start)

pub overflow_add-table : goal.overflow_add-table
overflow_add-table c = omega (arith, small (goal.at.overflow_add-table c).Start)

pub overflow_add-table-2 : goal.overflow_add-table-2
overflow_add-table-2 c = omega (arith, small (goal.at.overflow_add-table-2 c).Start, c.requires.0)

pub overflow_add-index-2 : goal.overflow_add-index-2
overflow_add-index-2 c = omega (arith, small (goal.at.overflow_add-index-2 c).Start, c.requires.0)

pub overflow_add-end-2 : goal.overflow_add-end-2
overflow_add-end-2 c = omega (arith, small (goal.at.overflow_add-end-2 c).Start, c.requires.0)

pub returns : goal.returns
unfolding layout_of created_used created_index_at
returns c = rw c.shift_for-shift.ensures refl
