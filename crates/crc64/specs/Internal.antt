-- What the contracts of this crate's internal functions cite: tables, and four registers that stand for one.
-- No public contract names anything of this file: that of the checksum is in Crc. Assumes nothing.
use Rattle.std.specs.Prelude.{◌≡◌, List, ℕ, ◌+◌, ◌*◌, ◌/◌, ◌%◌, ◌<◌, length, get_or}
use Rattle.std.specs.Int.Bits.{bit_xor}
use Rattle.crc64.specs.Crc.{shifts}

-- entry i of the tables, which stand one after the other: table k = i / 256 has for the byte b = i % 256 what 200 + 8 k shifts make of b
unfoldable pub entry : ℕ → ℕ
entry i = shifts (200 + 8 * (i / 256)) (i % 256)

-- the bit 2^7 after 200 + n shifts: the entries of single bits are these, since 2^j is 2^7 after 7 - j shifts
unfoldable pub power : ℕ → ℕ
power n = shifts (200 + n) 128

-- an array of a size, whose first n elements are those of a rule
pub record Filled (rule : ℕ → ℕ) (size : ℕ) (t : List ℕ) (n : ℕ) : Type 0 where
  pub sized : length t ≡ size
  pub at : (i : ℕ) → i < n → get_or t i 0 ≡ rule i

-- the eight tables, whole
abbrev pub Tables : List ℕ → Type 0
Tables t = Filled entry 2048 t 2048

-- four registers that stand for one: each is 64 shifts behind the next
unfoldable pub joined : ℕ → ℕ → ℕ → ℕ → ℕ
joined a b c d = shifts 64 (bit_xor (shifts 64 (bit_xor (shifts 64 (bit_xor (shifts 64 a) b)) c)) d)
