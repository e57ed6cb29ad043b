-- Exclusive or is associative, which lib.Bits does not have, and what follows of it. Assumes nothing.
use mathlib.Core.Path.{◌≡◌, refl, sym, ap, ap₂, ◌∙◌}
use Prim.Native.Nat.{ℕ, zero, suc, ◌+◌, ◌*◌, ◌/◌, ◌%◌, ◌<◌}
use native.Mathlib.Nat.{mod-lt, zero-lt-suc, not-suc-le-zero, le_of_suc-le-suc}
use lib.Arith.{bin_ind}
use lib.Bits.{bit_xor, differ, xor_step, xor_shr, xor_mod, xor_comm, xor_self}

-- a binary digit
pub data Bit : ℕ → Type 0 where
  b0 : Bit 0
  b1 : Bit 1

bit : (n : ℕ) → n < 2 → Bit n
bit zero h = b0
bit (suc zero) h = b1
bit (suc (suc n)) h = absurd (not-suc-le-zero (le_of_suc-le-suc (le_of_suc-le-suc h)))

pub odd : (n : ℕ) → Bit (n % 2)
odd n = bit (n % 2) (mod-lt n (zero-lt-suc 1))

digit : {x y z : ℕ} → Bit x → Bit y → Bit z → differ (bit_xor x y) z ≡ differ x (bit_xor y z)
digit b0 b0 b0 = refl
digit b0 b0 b1 = refl
digit b0 b1 b0 = refl
digit b0 b1 b1 = refl
digit b1 b0 b0 = refl
digit b1 b0 b1 = refl
digit b1 b1 b0 = refl
digit b1 b1 b1 = refl

pub xor_assoc : (a b c : ℕ) → bit_xor (bit_xor a b) c ≡ bit_xor a (bit_xor b c)
xor_assoc a =
    bin_ind (λ (n : ℕ). (b c : ℕ) → bit_xor (bit_xor n b) c ≡ bit_xor n (bit_xor b c)) (λ b c. refl)
    (λ n ih b c.
    xor_step (bit_xor n b) c
    ∙ ap₂ (λ (x y : ℕ). bit_xor x (c / 2) * 2 + differ y (c % 2)) (xor_shr n b 1) (xor_mod n b 1)
    ∙ ap₂ (λ (x y : ℕ). x * 2 + y) (ih (b / 2) (c / 2)) (digit (odd n) (odd b) (odd c))
    ∙ sym (ap₂ (λ (x y : ℕ). bit_xor (n / 2) x * 2 + differ (n % 2) y) (xor_shr b c 1) (xor_mod b c 1))
    ∙ sym (xor_step n (bit_xor b c))) a

-- the last two change places
pub xor-swap : (a b c : ℕ) → bit_xor (bit_xor a b) c ≡ bit_xor (bit_xor a c) b
xor-swap a b c = xor_assoc a b c ∙ ap (bit_xor a) (xor_comm b c) ∙ sym (xor_assoc a c b)

-- what goes in twice goes out
pub xor-twice : (a b c : ℕ) → bit_xor (bit_xor a c) (bit_xor b c) ≡ bit_xor a b
xor-twice a b c =
    xor_assoc a c (bit_xor b c)
    ∙ ap (bit_xor a) (ap (bit_xor c) (xor_comm b c) ∙ sym (xor_assoc c c b) ∙ ap (λ (x : ℕ). bit_xor x b) (xor_self c))
