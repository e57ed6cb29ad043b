-- `storing::put_entries` meets its contract. The invariant: what is left, done from here on, leaves what all leaves. Assumes nothing.
use Prim.Native.Nat.{◌-◌}
use Rattle.format.specs.Committing.{entry_numbers}
use Rattle.opening.specs.Answers.{contents}
use Rattle.storing.proofs.Pass.{Going}
use Rattle.storing.proofs.put_entries.Given as goal

abbrev pub invariant-loop-a : goal.invariant-loop-a
invariant-loop-a l =
    Going l.initial.buf l.used (contents l.t) (entry_numbers (contents l.t) l.addresses) l.size l.sectors l.at.0 l.shift l.buf l.stored l.k l.a

abbrev pub decreases-loop-a : goal.decreases-loop-a
decreases-loop-a l = l.t.count - l.a
