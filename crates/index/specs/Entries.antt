-- The entries of an index by their numbers.
use Rattle.std.specs.Prelude.{List, ℕ, ◌+◌, ◌-◌, ◌*◌}
use Rattle.format.specs.declared.Entry.{Entry}
use Rattle.format.specs.Layouts.{index_header_length, entry_count, entry_length, entries_from}

-- where entry i of the index at o stands
abbrev pub entry_place : ℕ → ℕ → ℕ
entry_place o i = o + index_header_length + entry_length * i

-- the entries from the i-th on
abbrev pub entries_on : List ℕ → ℕ → ℕ → List Entry
entries_on img o i = entries_from img (entry_count img o - i) (entry_place o i)
