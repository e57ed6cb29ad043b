-- `sectors::names` meets its contract. The invariant: what is left gives what all gives. Assumes nothing.
use mathlib.Core.Path.{◌≡◌}
use Prim.Native.Nat.{◌+◌, ◌-◌, ◌*◌}
use Rattle.format.specs.Layouts.{DBLK, entry_length, entries_from}
use Rattle.format.specs.Opening.{offsets_of}
use Rattle.format.specs.Reading.{has}
use Rattle.sectors.proofs.names.Given as goal

abbrev pub invariant-loop-k : goal.invariant-loop-k
invariant-loop-k l =
    has l.b.0 (offsets_of DBLK (entries_from l.s (l.left - l.k) (l.first.0 + entry_length * l.k))) ≡ has l.b.0 (offsets_of DBLK (entries_from l.s l.left l.first.0))
