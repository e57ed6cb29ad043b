-- Four registers that stand for one, and what 32 bytes do to them. Assumes nothing.
use mathlib.Core.Path.{◌≡◌, sym, ap, ◌∙◌}
use mathlib.Core.List.{List}
use Prim.Native.Nat.{ℕ, ◌+◌, ◌≤◌, ◌<◌}
use native.Mathlib.Nat.{add_comm, add_assoc}
use native.Mathlib.Omega.{arith}
use lib.ListN.{length, drop, get_or}
use lib.Bits.{bit_xor, xor_zero_r}
use Rattle.fields.specs.Bytes.{field}
use Rattle.crc64.specs.Crc.{shifts, run}
use Rattle.crc64.proofs.Xor.{xor_assoc, xor-swap}
use Rattle.crc64.proofs.Linear.{shifts-xor, shifts-add}
use Rattle.crc64.specs.Internal.{joined}
use Rattle.crc64.proofs.Words.{run-field}

-- one register goes into the next
abbrev pass : ℕ → ℕ → ℕ
pass r b = bit_xor (shifts 64 r) b

-- the middle two change places
xor-four : (a b c d : ℕ) → bit_xor (bit_xor a b) (bit_xor c d) ≡ bit_xor (bit_xor a c) (bit_xor b d)
xor-four a b c d =
    sym (xor_assoc (bit_xor a b) c d) ∙ ap (λ (x : ℕ). bit_xor x d) (xor-swap a b c) ∙ xor_assoc (bit_xor a c) b d

-- shifts commute
swap : (m n x : ℕ) → shifts m (shifts n x) ≡ shifts n (shifts m x)
swap m n x = sym (shifts-add m n x) ∙ ap (λ (k : ℕ). shifts k x) (add_comm m n) ∙ shifts-add n m x

-- linear, as shifts are; and it commutes with shifts
pass-xor : (r p b c : ℕ) → pass (bit_xor r p) (bit_xor b c) ≡ bit_xor (pass r b) (pass p c)
pass-xor r p b c = ap (λ (x : ℕ). bit_xor x (bit_xor b c)) (shifts-xor 64 r p) ∙ xor-four (shifts 64 r) (shifts 64 p) b c

pass-shifts : (m r b : ℕ) → pass (shifts m r) (shifts m b) ≡ shifts m (pass r b)
pass-shifts m r b = ap (λ (x : ℕ). bit_xor x (shifts m b)) (swap 64 m r) ∙ sym (shifts-xor m (shifts 64 r) b)

-- so joining is linear, and commutes with shifts
joined-xor : (a b c d w x y z : ℕ) → joined (bit_xor a w) (bit_xor b x) (bit_xor c y) (bit_xor d z) ≡ bit_xor (joined a b c d) (joined w x y z)
unfolding joined
joined-xor a b c d w x y z =
    ap (λ (r : ℕ). shifts 64 (pass (pass r (bit_xor c y)) (bit_xor d z))) (pass-xor a w b x)
    ∙ ap (λ (r : ℕ). shifts 64 (pass r (bit_xor d z))) (pass-xor (pass a b) (pass w x) c y)
    ∙ ap (shifts 64) (pass-xor (pass (pass a b) c) (pass (pass w x) y) d z)
    ∙ shifts-xor 64 (pass (pass (pass a b) c) d) (pass (pass (pass w x) y) z)

joined-shifts : (m a b c d : ℕ) → joined (shifts m a) (shifts m b) (shifts m c) (shifts m d) ≡ shifts m (joined a b c d)
unfolding joined
joined-shifts m a b c d =
    ap (λ (r : ℕ). shifts 64 (pass (pass r (shifts m c)) (shifts m d))) (pass-shifts m a b)
    ∙ ap (λ (r : ℕ). shifts 64 (pass r (shifts m d))) (pass-shifts m (pass a b) c)
    ∙ ap (shifts 64) (pass-shifts m (pass (pass a b) c) d)
    ∙ swap 64 m (pass (pass (pass a b) c) d)

-- a first register alone
joined-first : (r : ℕ) → joined r 0 0 0 ≡ shifts 256 r
unfolding joined
joined-first r =
    ap (λ (x : ℕ). shifts 64 (pass (pass x 0) 0)) (xor_zero_r (shifts 64 r))
    ∙ ap (λ (x : ℕ). shifts 64 (pass x 0)) (xor_zero_r (shifts 64 (shifts 64 r)))
    ∙ ap (shifts 64) (xor_zero_r (shifts 64 (shifts 64 (shifts 64 r))))
    ∙ sym (shifts-add 64 192 r ∙ ap (shifts 64) (shifts-add 64 128 r ∙ ap (shifts 64) (shifts-add 64 64 r)))

-- the joined register and four words, by 256 shifts of each register
turn : (a b c d w x y z : ℕ)
    → joined (bit_xor (joined a b c d) w) x y z ≡ joined (bit_xor (shifts 256 a) w) (bit_xor (shifts 256 b) x) (bit_xor (shifts 256 c) y) (bit_xor (shifts 256 d) z)
turn a b c d w x y z =
    joined-xor (joined a b c d) 0 0 0 w x y z
    ∙ ap (λ (r : ℕ). bit_xor r (joined w x y z)) (joined-first (joined a b c d) ∙ sym (joined-shifts 256 a b c d))
    ∙ sym (joined-xor (shifts 256 a) (shifts 256 b) (shifts 256 c) (shifts 256 d) w x y z)

-- registers by what they are equal to
joined-eq : {a b c d w x y z : ℕ} → a ≡ w → b ≡ x → c ≡ y → d ≡ z → joined a b c d ≡ joined w x y z
joined-eq p q r s = cc

module _ (s : List ℕ) (bytes : (j : ℕ) → get_or s j 0 < 256) (i : ℕ) (fits : i + 32 ≤ length s) where
  -- 32 bytes go into a register
  four-words : (c : ℕ) → run c (drop i s) ≡ run (joined (bit_xor c (field s i 8)) (field s (i + 8) 8) (field s (i + 16) 8) (field s (i + 24) 8)) (drop (i + 32) s)
  unfolding joined
  four-words c =
      run-field 8 c s i bytes (omega arith)
      ∙ next (shifts 64 (bit_xor c (field s i 8))) 8 (omega arith)
      ∙ next (shifts 64 (pass (bit_xor c (field s i 8)) (field s (i + 8) 8))) 16 (omega arith)
      ∙ next (shifts 64 (pass (pass (bit_xor c (field s i 8)) (field s (i + 8) 8)) (field s (i + 16) 8))) 24 (omega arith)
    where
      next : (x k : ℕ) → k ≤ 24 → run x (drop (i + k) s) ≡ run (shifts 64 (bit_xor x (field s (i + k) 8))) (drop (i + (k + 8)) s)
      next x k l = run-field 8 x s (i + k) bytes (omega arith) ∙ ap (λ (n : ℕ). run (shifts 64 (bit_xor x (field s (i + k) 8))) (drop n s)) (add_assoc i k 8)

  -- the lanes start with a word each, the first with the register too
  pub lanes_start : (c : ℕ) {w x y z : ℕ} → w ≡ bit_xor c (field s i 8) → x ≡ field s (i + 8) 8 → y ≡ field s (i + 16) 8 → z ≡ field s (i + 24) 8
      → run (joined w x y z) (drop (i + 32) s) ≡ run c (drop i s)
  lanes_start c p q r t = ap (λ (x : ℕ). run x (drop (i + 32) s)) (joined-eq p q r t) ∙ sym (four-words c)

  -- a turn: 256 shifts and a word for each lane
  pub lanes_next : (a b c d : ℕ) {w x y z : ℕ}
      → w ≡ bit_xor (shifts 256 a) (field s i 8)
      → x ≡ bit_xor (shifts 256 b) (field s (i + 8) 8)
      → y ≡ bit_xor (shifts 256 c) (field s (i + 16) 8)
      → z ≡ bit_xor (shifts 256 d) (field s (i + 24) 8)
      → run (joined w x y z) (drop (i + 32) s) ≡ run (joined a b c d) (drop i s)
  lanes_next a b c d p q r t =
      ap (λ (x : ℕ). run x (drop (i + 32) s))
      (joined-eq p q r t ∙ sym (turn a b c d (field s i 8) (field s (i + 8) 8) (field s (i + 16) 8) (field s (i + 24) 8)))
      ∙ sym (four-words (joined a b c d))
