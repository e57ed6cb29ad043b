-- What the functions that write a flattened image ask for.
use Rattle.std.specs.Prelude.{List, [], ◌≢◌, ◌≡◌, ℕ, Ok}
use Rattle.format.specs.Flattening.{size_of, flatten_verdict}
use Rattle.pairs.specs.declared.pair.Pair.{Pair}
use Rattle.pairs.specs.Sectors.{written_in}

-- a pair that has sectors, of this size, all of whose checks but 35 have passed
pub record Ready (buffer : List ℕ) (pair : Pair) (application : List ℕ) (size : ℕ) : Type 0 where
  pub checked : flatten_verdict buffer pair.child.bytes.now pair.parent.bytes.now application ≡ Ok tt
  pub size_is : size ≡ size_of (written_in pair)
  pub any : written_in pair ≢ []
