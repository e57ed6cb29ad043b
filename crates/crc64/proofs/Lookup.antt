-- Eight look-ups in the tables are 256 shifts. Assumes nothing.
use mathlib.Core.Path.{◌≡◌, sym, ap, ap₂, ◌∙◌}
use mathlib.Core.List.{List}
use Prim.Native.Nat.{ℕ, ◌+◌, ◌*◌, ◌/◌, ◌%◌, ◌^◌, ◌<◌}
use native.Mathlib.Nat.{mod-lt}
use lib.Pow.{pow_pos}
use native.Mathlib.Omega.{arith}
use lib.ListN.{get_or}
use lib.Bits.{bit_xor}
use Rattle.crc64.specs.Crc.{shifts}
use Rattle.crc64.proofs.Linear.{shifts-xor, shifts-split, shifts-add}
use Rattle.crc64.specs.Internal.{entry, Tables}

-- shifts by parts: of the lowest byte, and of the rest, for which eight are done
peel : (n x : ℕ) → shifts (n + 8) x ≡ bit_xor (shifts n (x / 2 ^ 8)) (shifts (n + 8) (x % 2 ^ 8))
peel n x =
    shifts-add n 8 x
    ∙ ap (shifts n) (shifts-split 8 x)
    ∙ shifts-xor n (x / 2 ^ 8) (shifts 8 (x % 2 ^ 8))
    ∙ ap (bit_xor (shifts n (x / 2 ^ 8))) (sym (shifts-add n 8 (x % 2 ^ 8)))

-- the entry for a byte in table k
pub entry_of : (k b : ℕ) → b < 256 → entry (256 * k + b) ≡ shifts (200 + 8 * k) b
unfolding entry
entry_of k b h =
    let q : 200 + 8 * ((256 * k + b) / 256) ≡ 200 + 8 * k = omega arith in
    let r : (256 * k + b) % 256 ≡ b = omega arith in
    ap₂ shifts q r

module _ (t : List ℕ) (right : Tables t) where
  -- what a look-up gives
  look_up : (k b : ℕ) → k < 8 → b < 256 → get_or t (256 * k + b) 0 ≡ shifts (200 + 8 * k) b
  look_up k b hk hb = right.at (256 * k + b) (omega arith) ∙ entry_of k b hb

  -- the shifts of x, from those of all but its lowest byte and a look-up for that
  looked : (k x y : ℕ) → k < 8 → shifts (192 + 8 * k) (x / 2 ^ 8) ≡ y → bit_xor y (get_or t (256 * k + x % 2 ^ 8) 0) ≡ shifts (200 + 8 * k) x
  looked k x y hk e =
      let n : 192 + 8 * k + 8 ≡ 200 + 8 * k = omega arith in
      ap₂ bit_xor (sym e) (look_up k (x % 2 ^ 8) hk (mod-lt x (pow_pos 8)))
      ∙ sym (ap (λ (m : ℕ). bit_xor (shifts (192 + 8 * k) (x / 2 ^ 8)) (shifts m (x % 2 ^ 8))) n)
      ∙ sym (peel (192 + 8 * k) x)
      ∙ ap (λ (m : ℕ). shifts m x) n

  -- a single byte is left
  base : (x : ℕ) → x < 256 → get_or t (x % 2 ^ 8) 0 ≡ shifts 200 x
  base x h = let e : x % 2 ^ 8 ≡ 256 * 0 + x = omega arith in ap (λ (i : ℕ). get_or t i 0) e ∙ look_up 0 x (omega arith) h

  -- one look-up for each byte of a word is 256 shifts
  pub looks : (x : ℕ) → x < 2 ^ 64 → let x1 = x / 2 ^ 8 in let x2 = x1 / 2 ^ 8 in let x3 = x2 / 2 ^ 8 in let x4 = x3 / 2 ^ 8 in let x5 = x4 / 2 ^ 8 in let x6 = x5 / 2 ^ 8 in let x7 = x6 / 2 ^ 8 in
      bit_xor (bit_xor (bit_xor (bit_xor (bit_xor (bit_xor (bit_xor
      (get_or t (x7 % 2 ^ 8) 0)
      (get_or t (256 + x6 % 2 ^ 8) 0))
      (get_or t (512 + x5 % 2 ^ 8) 0))
      (get_or t (768 + x4 % 2 ^ 8) 0))
      (get_or t (1024 + x3 % 2 ^ 8) 0))
      (get_or t (1280 + x2 % 2 ^ 8) 0))
      (get_or t (1536 + x1 % 2 ^ 8) 0))
      (get_or t (1792 + x % 2 ^ 8) 0)
      ≡ shifts 256 x
  looks x h =
      let x1 = x / 2 ^ 8 in let x2 = x1 / 2 ^ 8 in let x3 = x2 / 2 ^ 8 in let x4 = x3 / 2 ^ 8 in let x5 = x4 / 2 ^ 8 in let x6 = x5 / 2 ^ 8 in let x7 = x6 / 2 ^ 8 in
      let small : x7 < 256 = omega arith in
      looked 7 x _ (omega arith) (sym (looked 6 x1 _ (omega arith) (sym (looked 5 x2 _ (omega arith) (sym (looked 4 x3 _ (omega arith)
      (sym (looked 3 x4 _ (omega arith) (sym (looked 2 x5 _ (omega arith) (sym (looked 1 x6 _ (omega arith) (sym (base x7 small))))))))))))))
