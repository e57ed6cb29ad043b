-- What was written to the front of a buffer with room for it lies within the buffer.
use Rattle.std.proofs.Common.{◌≡◌, ℕ, ◌≤◌, List, length, ap, ◌∙◌, arith}
use Rattle.fields.specs.Bytes.{overwrite}
use Rattle.fields.proofs.Overwrite.{length-overwrite}

pub fits : (before text after : List ℕ) (n : ℕ) → after ≡ overwrite before 0 text → n ≡ length text → length text ≤ length before → n ≤ length after
fits before text after n written long room =
    let same : length after ≡ length before = ap length written ∙ length-overwrite before 0 text in
    omega (arith, same, long, room)
