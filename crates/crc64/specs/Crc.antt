-- The checksum of document 01, "Layouts", paragraph "Checksum": CRC-64/XZ (polynomial of ECMA-182, reflected) of a list of bytes.
-- The words in quotes are the document's. Assumes nothing.
use Rattle.std.specs.Prelude.{List, [], ◌∷◌, ℕ, zero, suc, ◌-◌, ◌/◌, ◌%◌, ◌^◌}
use Rattle.std.specs.Int.Bits.{bit_xor}

-- the polynomial, its bits in reverse order
abbrev pub polynomial : ℕ
polynomial = 0xC96C5795D7870F42

-- "all 64 bits one"
abbrev pub ones : ℕ
ones = 2 ^ 64 - 1

-- the register after a shift, by the bit that fell out: "if a one fell out, exclusive-or" the polynomial
unfoldable pub reduce : ℕ → ℕ → ℕ
reduce zero register = register
reduce (suc bit) register = bit_xor register polynomial

-- "shift right by one and, if a one fell out, exclusive-or" the polynomial
unfoldable pub shift : ℕ → ℕ
unfolding reduce
shift register = reduce (register % 2) (register / 2)

-- n times
unfoldable pub shifts : ℕ → ℕ → ℕ
unfolding shift
shifts zero register = register
shifts (suc n) register = shifts n (shift register)

-- a byte: "exclusive-or it into the low 8 bits, then eight times shift"
unfoldable pub add_byte : ℕ → ℕ → ℕ
unfolding shifts
add_byte register byte = shifts 8 (bit_xor register byte)

-- "for each byte", in order
unfoldable pub run : ℕ → List ℕ → ℕ
unfolding add_byte
run register [] = register
run register (byte ∷ bytes) = run (add_byte register byte) bytes

-- the checksum: "start with all 64 bits one", and "at the end invert all bits"
unfoldable pub crc_of : List ℕ → ℕ
unfolding run
crc_of bytes = ones - run ones bytes
