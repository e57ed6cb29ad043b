-- Several bytes at a time: what the linearity of shifts gives. Assumes nothing.
use mathlib.Core.Path.{◌≡◌, sym, ap, ◌∙◌}
use mathlib.Core.List.{List}
use Prim.Native.Nat.{ℕ, zero, suc, ◌+◌, ◌*◌, ◌^◌, ◌≤◌, ◌<◌}
use native.Mathlib.Nat.{add-zero}
use native.Mathlib.Numerals.{add-one}
use native.Mathlib.Omega.{arith}
use lib.ListN.{length, drop, get_or}
use lib.Bits.{bit_xor, xor_comm, xor_shifted, xor_zero_r}
use Rattle.fields.specs.Bytes.{field}
use Rattle.fields.proofs.Numbers.{field-zero, field_step}
use Rattle.crc64.specs.Crc.{shifts, add_byte, run}
use Rattle.crc64.proofs.Run.{run-next}
use Rattle.crc64.proofs.Xor.{xor_assoc}
use Rattle.crc64.proofs.Linear.{shifts-xor, shifts-back, shifts-add}

-- a byte below a number, which moves up by eight bits
abbrev under : ℕ → ℕ → ℕ
under b w = bit_xor b (w * 2 ^ 8)

-- is a sum
under-sum : (b w : ℕ) → b < 256 → under b w ≡ b + 256 * w
under-sum b w h = xor_comm b (w * 2 ^ 8) ∙ xor_shifted w 8 b h ∙ omega arith

-- a byte that goes in before the number w may go in below it
add-byte-under : (n c b w : ℕ) → shifts n (bit_xor (add_byte c b) w) ≡ shifts (n + 8) (bit_xor c (under b w))
unfolding add_byte
add-byte-under n c b w =
    ap (λ (x : ℕ). shifts n (bit_xor (shifts 8 (bit_xor c b)) x)) (sym (shifts-back 8 w))
    ∙ ap (shifts n) (sym (shifts-xor 8 (bit_xor c b) (w * 2 ^ 8)) ∙ ap (shifts 8) (xor_assoc c b (w * 2 ^ 8)))
    ∙ sym (shifts-add n 8 (bit_xor c (under b w)))

-- k bytes go in as one number
pub run-field : (k c : ℕ) (s : List ℕ) (i : ℕ) → ((j : ℕ) → get_or s j 0 < 256) → i + k ≤ length s
    → run c (drop i s) ≡ run (shifts (8 * k) (bit_xor c (field s i k))) (drop (i + k) s)
unfolding shifts
run-field zero c s i bytes h = rw (field-zero, xor_zero_r, add-zero)
run-field (suc k) c s i bytes h =
    let b = get_or s i 0 in
    let w = field s (suc i) k in
    let p : i + 1 ≡ suc i = add-one i in
    let q : suc i + k ≡ i + suc k = omega arith in
    let n : 8 * k + 8 ≡ 8 * suc k = omega arith in
    let f : under b w ≡ field s i (suc k) = under-sum b w (bytes i) ∙ sym (field_step s i k) in
    run-next c s i (omega arith)
    ∙ ap (λ m. run (add_byte c b) (drop m s)) p
    ∙ run-field k (add_byte c b) s (suc i) bytes (omega arith)
    ∙ ap (λ x. run x (drop (suc i + k) s)) (add-byte-under (8 * k) c b w ∙ ap (λ m. shifts m (bit_xor c (under b w))) n ∙ ap (λ x. shifts (8 * suc k) (bit_xor c x)) f)
    ∙ ap (λ m. run (shifts (8 * suc k) (bit_xor c (field s i (suc k)))) (drop m s)) q
