-- `fields::put` meets its contract. The invariant: what is left to be written, written over the present buffer, makes what is asked.
-- Assumes nothing.
use mathlib.Core.Path.{◌≡◌}
use Prim.Native.Nat.{◌+◌, ◌-◌}
use Rattle.fields.specs.Bytes.{to_le, overwrite}
use Rattle.fields.proofs.put.Given as goal

abbrev pub invariant-loop-i : goal.invariant-loop-i
invariant-loop-i l = overwrite l.buf (l.at + l.i) (to_le (l.k - l.i) l.rest) ≡ overwrite l.initial.buf l.at (to_le l.k l.v)
