-- A record as the table of its fields, as document 01 gives each under Layouts.
-- Assumes nothing.
use Rattle.std.specs.Prelude.{List, [], ◌∷◌, ◌++◌, ℕ}
use Rattle.fields.specs.Bytes.{to_le}

-- a number in so many bytes; bytes as they are
pub data Field : Type 0 where
  num : ℕ → ℕ → Field
  raw : List ℕ → Field

abbrev pub field_bytes : Field → List ℕ
field_bytes (num k v) = to_le k v
field_bytes (raw bytes) = bytes

-- the fields' bytes, one field after the other without gaps
unfoldable pub layout : List Field → List ℕ
layout [] = []
layout (f ∷ fs) = field_bytes f ++ layout fs
