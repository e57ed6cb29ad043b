-- `fields::copy` meets its contract. The invariant: what is left to be written, written over the present buffer, makes what is asked.
-- Assumes nothing.
use mathlib.Core.Path.{◌≡◌}
use Prim.Native.Nat.{◌+◌}
use lib.ListN.{drop}
use Rattle.fields.specs.Bytes.{overwrite}
use Rattle.fields.proofs.copy.Given as goal

abbrev pub invariant-loop-i : goal.invariant-loop-i
invariant-loop-i l = overwrite l.buf (l.at + l.i) (drop l.i l.src) ≡ overwrite l.initial.buf l.at l.src
