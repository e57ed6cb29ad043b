-- `appending::block_length` meets its contract. Assumes nothing.
use native.Mathlib.Omega.{arith}
use mathlib.Core.Path.{sym}
use Prim.Native.Nat.{◌*◌, ◌≤◌}
use native.Mathlib.Nat.{mul-le-mul}
use Rattle.format.specs.Writing.{longest_buffer}
use Rattle.format.proofs.Ends.{length_none, length_some}
use Rattle.appending.proofs.block_length.Goals as goal
use Rattle.appending.proofs.block_length.Goals.{Else-stored-eq0}

-- the sectors are not too long for a buffer
small : (c : Else-stored-eq0) → c.args.stored * c.args.size ≤ longest_buffer
small c = mul-le-mul c.requires.0 c.requires.1

pub returns-then-stored-eq0 : goal.returns-then-stored-eq0
returns-then-stored-eq0 c = (sym (length_none _ _ c.if-stored-eq0.true), omega arith)

pub overflow_mul-result : goal.overflow_mul-result
overflow_mul-result c = omega (arith, small (goal.at.overflow_mul-result c).Else-stored-eq0)

pub overflow_add-result : goal.overflow_add-result
overflow_add-result c = omega (arith, small (goal.at.overflow_add-result c).Else-stored-eq0)

pub returns : goal.returns
returns c = (sym (length_some _ _ c.if-stored-eq0.false), omega (arith, small (goal.at.returns c).Else-stored-eq0))
