-- What the answers of this crate say in the terms of the definitions.
use Rattle.std.specs.Prelude.{◌≡◌, ◌+◌, ◌≤◌, ◌<◌}
use Rattle.format.specs.declared.TableKind.{TableKind}
use Rattle.format.specs.Layouts.{table_header_length_of, entry_width, entries_at, shift_at}
use Rattle.tables.specs.declared.Layout.{Layout}

-- the places and lengths of a kind of table
pub record IsLayout (k : TableKind) (l : Layout) : Type 0 where
  pub header : l.header ≡ table_header_length_of k
  pub entries : l.entries ≡ entries_at k
  pub shift : l.shift ≡ shift_at k
  pub width : l.width ≡ entry_width k
  -- what a caller needs of them
  pub ends : l.entries + 40 ≡ l.header
  pub inside : l.shift + 1 ≤ l.header
  pub long : l.header ≤ 82
  pub identified : 8 ≤ l.header
  pub some : 0 < l.width
  pub narrow : l.width ≤ 8
