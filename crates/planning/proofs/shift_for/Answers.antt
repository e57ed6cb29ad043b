-- `planning::shift_for` meets its contract: the leading zeros and the length in bits make 64. Assumes nothing.
use mathlib.Core.Path.{◌≡◌, ◌∙◌}
use Prim.Native.Nat.{ℕ, suc, ◌+◌, ◌-◌, ◌*◌, ◌^◌, ◌≤◌, ◌<◌}
use native.Mathlib.Nat.{pow-suc, le_antisymm, lt_of_not-le, le_of_suc-le-suc}
use native.Mathlib.Omega.{arith}
use lib.Count.{count_leading_zeros, leading_length, leading_le}
use lib.Pow.{pow_mono}
use Rattle.format.specs.Committing.{shift_for}
use Rattle.format.proofs.Storing.{shift_fits, shift-least}
use Rattle.planning.proofs.shift_for.Goals as goal

-- a number's length in bits is at most that of any power above it
shortest : (n m j : ℕ) → 2 ^ m ≤ 2 * n + 1 → n < 2 ^ j → m ≤ j
shortest n m j l h =
    le_of_suc-le-suc (lt_of_not-le (λ (g : suc j ≤ m). let p : 2 ^ j * 2 ≤ 2 ^ m = rw pow-suc at (pow_mono g) in omega arith))

length-is-shift : (n : ℕ) → n < 2 ^ 64 → 64 - count_leading_zeros 64 n ≡ shift_for n
unfolding shift_for
length-is-shift n h =
    let (m, s, below, long) = leading_length 64 n h in
    let q : 64 - count_leading_zeros 64 n ≡ m = omega arith in
    q ∙ le_antisymm (shortest n m _ long (shift_fits 64 0 n h)) (shift-least 64 0 n m (omega arith) below)

pub overflow_sub-result : goal.overflow_sub-result
overflow_sub-result c = omega (arith, leading_le 64 c.args.largest.0)

pub returns : goal.returns
returns c = length-is-shift c.args.largest.0 (omega arith)
