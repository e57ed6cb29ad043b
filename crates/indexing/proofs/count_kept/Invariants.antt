-- `indexing::count_kept` meets its contract. The invariant: the entries kept so far and those among the entries that are left give what all give. Assumes nothing.
use Prim.Native.Nat.{◌-◌}
use Rattle.format.specs.Layouts.{entry_count}
use Rattle.index.specs.Entries.{entry_place}
use Rattle.indexing.proofs.Turns.{Counting}
use Rattle.indexing.proofs.count_kept.Given as goal

abbrev pub invariant-loop-i : goal.invariant-loop-i
invariant-loop-i l =
    let s = l.index.bytes.now in
    let o = l.index.at.0 in
    Counting s o (entry_count s o - l.i) (entry_place o l.i) l.kept
