-- What an import's functions ask for.
use Rattle.std.specs.Prelude.{List, ◌≢◌, ℕ, ◌*◌, ◌≤◌, length}
use Rattle.format.specs.Writing.{most_addresses}

-- the file has so many sectors of this size
pub record Files (file : List ℕ) (count size : ℕ) : Type 0 where
  pub whole : count * size ≤ length file
  pub few : count ≤ most_addresses
  pub pos : size ≢ 0
