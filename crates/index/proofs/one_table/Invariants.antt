-- `index::one_table` meets its contract. The invariant: the entries that are left give what all give, and so do the tables seen with those that are left. Assumes nothing.
use mathlib.Core.Path.{◌≡◌}
use Prim.Native.Nat.{◌+◌, ◌-◌}
use Rattle.format.specs.Layouts.{index_header_length, entry_count, entries_from, entries}
use Rattle.format.specs.Opening.{entries_verdict, offsets_with, is_table}
use Rattle.index.specs.Entries.{entry_place}
use Rattle.index.specs.Tables.{one_answer, before}
use Rattle.index.proofs.one_table.Given as goal

abbrev pub invariant-loop-i : goal.invariant-loop-i
invariant-loop-i l =
    let s = l.index.bytes.now in
    let o = l.index.at.0 in
    let n = entry_count s o in
    (entries_verdict s (n - l.i) (entry_place o l.i) ≡ entries_verdict s n (o + index_header_length))
    × (one_answer o (before l.seen (offsets_with is_table (entries_from s (n - l.i) (entry_place o l.i)))) ≡ one_answer o (offsets_with is_table (entries s o)))
