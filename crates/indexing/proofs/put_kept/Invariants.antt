-- `indexing::put_kept` meets its contract. The invariant: the entries that are left, written over the present buffer, give what is asked, and the image is as it was. Assumes nothing.
use Prim.Native.Nat.{◌-◌}
use Rattle.index.specs.Entries.{entry_place}
use Rattle.indexing.proofs.Turns.{Putting}
use Rattle.indexing.proofs.put_kept.Given as goal

abbrev pub invariant-loop-i : goal.invariant-loop-i
invariant-loop-i l = Putting l.initial.buf l.used l.table.0 l.o.0 l.initial.q l.buf (l.count - l.i) (entry_place l.o.0 l.i) l.q
