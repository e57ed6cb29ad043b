-- Text that is written into a lent buffer.
use Rattle.std.specs.Prelude.{List, ◌≡◌, ℕ, ◌+◌, ◌≤◌, min, length}
use Rattle.fields.specs.Bytes.{overwrite}

-- text written from place `at` on, and the place after it; what lies past the buffer's end is dropped, and the place stays at the end
pub record Writes (before : List ℕ) (at : ℕ) (text after : List ℕ) (next : ℕ) : Type 0 where
  pub bytes : after ≡ overwrite before at text
  pub place : next ≡ min (at + length text) (length before)

-- a text written whole to the front of a buffer, which has room for it, and its length
pub record Prints (before text after : List ℕ) (n : ℕ) : Type 0 where
  pub bytes : after ≡ overwrite before 0 text
  pub whole : n ≡ length text
  pub room : length text ≤ length before
