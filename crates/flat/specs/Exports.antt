-- What the functions of this crate ask for.
use Rattle.std.specs.Prelude.{List, ◌≡◌, ℕ, Ok}
use Rattle.format.specs.Refusals.{first_refusal}
use Rattle.format.specs.Opening.{Opened}
use Rattle.format.specs.Exporting.{flat_size, size_verdict}
use Rattle.search.specs.Found.{Checked}

-- a disc whose every sector is good or not written, and whose written ones have this size
pub record Uniform (img : List ℕ) (t : Opened) (size : ℕ) : Type 0 where
  pub checked : Checked img t
  pub size_is : size ≡ flat_size img t
  pub sizes : first_refusal (size_verdict img t) t.count 0 ≡ Ok tt
