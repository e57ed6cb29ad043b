-- The header of a new data block.
use Rattle.std.specs.Prelude.{List, [], ℕ, zero, suc}
use Rattle.format.specs.Layouts.{block_header}

-- by how many sectors are stored in it: "one data block if anything is stored"
unfoldable pub header_for : ℕ → ℕ → List ℕ → List ℕ
header_for zero size payload = []
header_for (suc n) size payload = block_header size payload
