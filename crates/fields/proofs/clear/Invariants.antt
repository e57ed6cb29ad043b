-- `fields::clear` meets its contract. The invariant: of the bytes that are lent, those up to the present one are zeros. Assumes nothing.
use Rattle.std.proofs.Common.{◌≡◌, length, replicate, take}
use Rattle.fields.proofs.clear.Given as goal

abbrev pub invariant-loop-byte : goal.invariant-loop-byte
invariant-loop-byte l = (length l.byte-items ≡ l.n) × (take l.byte-index l.byte-items ≡ replicate l.byte-index 0)
