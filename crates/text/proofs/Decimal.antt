-- Laws of `decimal` and what is made of it: its digits one by one, a number by its sign, how long the texts are, and examples by computing them.
-- Assumes nothing.
use mathlib.Core.Bool.{true, false, true≢false}
use mathlib.Core.List.{List, [], ◌∷◌, ◌++◌}
use mathlib.Core.Path.{◌≡◌, refl, sym, ap, ◌∙◌}
use Prim.Native.Nat.{ℕ, zero, suc, ◌+◌, ◌*◌, ◌/◌, ◌^◌, ◌≤◌, ◌<◌}
use native.Mathlib.Nat.{pow-suc}
use native.Mathlib.Omega.{arith}
use lib.ListN.{length, length-append}
use lib.IntN.{ℤ, pos, negsuc, nat_abs}
use lib.Signed.{lt_z}
use borrow.Author.Tests.{ltb-true}
use Rattle.format.specs.Tests.{below, choose}
use Rattle.format.proofs.Tests.{below_true, below-iff, choose-true, choose-false, choose-cases}
use Rattle.text.specs.Text.{MINUS, last_digit, digits, decimal, signed, refused_line}

-- the codes of the digits of a few numbers: 0, 7, 10, 507, 65536, 2^64 - 1
pub decimal-examples :
    (decimal 0 ≡ 48 ∷ []) × (decimal 7 ≡ 55 ∷ []) × (decimal 10 ≡ 49 ∷ 48 ∷ []) × (decimal 507 ≡ 53 ∷ 48 ∷ 55 ∷ [])
    × (decimal 65536 ≡ 54 ∷ 53 ∷ 53 ∷ 51 ∷ 54 ∷ [])
    × (decimal 18446744073709551615
    ≡ 49 ∷ 56 ∷ 52 ∷ 52 ∷ 54 ∷ 55 ∷ 52 ∷ 52 ∷ 48 ∷ 55 ∷ 51 ∷ 55 ∷ 48 ∷ 57 ∷ 53 ∷ 53 ∷ 49 ∷ 54 ∷ 49 ∷ 53 ∷ [])
unfolding decimal digits below choose
decimal-examples = (refl, refl, refl, refl, refl, refl)

tenth : (k n : ℕ) → n < 10 ^ suc k → n / 10 < 10 ^ k
tenth k n h = let e : 10 ^ suc k ≡ 10 ^ k * 10 = pow-suc 10 k in omega arith

-- one digit more than there are changes nothing
digits-enough : (k n : ℕ) → n < 10 ^ suc k → digits (suc k) n ≡ digits (suc (suc k)) n
unfolding digits
digits-enough zero n h = rw (below_true n 10 h, choose-true, choose-true)
digits-enough (suc k) n h = ap (λ (l : List ℕ). choose (below n 10) [] l ++ (last_digit n ∷ [])) (digits-enough k (n / 10) (tenth (suc k) n h))

-- ---- the last digit, and those before it
pub decimal-one : (n : ℕ) → n < 10 → decimal n ≡ last_digit n ∷ []
unfolding decimal digits
decimal-one n h = ap (λ (l : List ℕ). l ++ (last_digit n ∷ [])) (choose-true _ _ _ (below_true n 10 h))

pub decimal-more : (n : ℕ) → 10 ≤ n → n < 10 ^ 20 → decimal n ≡ decimal (n / 10) ++ (last_digit n ∷ [])
unfolding decimal digits
decimal-more n h b =
    ap (λ (l : List ℕ). l ++ (last_digit n ∷ []))
    (choose-false _ _ _ (below-iff.1 h) ∙ digits-enough 18 (n / 10) (tenth 19 n b))

-- ---- a number by its sign, n from 0
pub signed_up : (x : ℤ) {n : ℕ} → n ≡ nat_abs x → lt_z x (pos 0) ≡ false → signed x ≡ decimal n
unfolding signed
signed_up (pos m) e s = ap decimal (sym e)
signed_up (negsuc m) e s = absurd (true≢false s)

pub signed-down : (x : ℤ) {n : ℕ} → n ≡ nat_abs x → lt_z x (pos 0) ≡ true → signed x ≡ MINUS ++ decimal n
unfolding signed
signed-down (pos m) e s = absurd (omega (arith, ltb-true m 0 s))
signed-down (negsuc m) e s = ap (λ k. MINUS ++ decimal k) (sym e)

-- ---- how many digits there are
length_digits : (k j n : ℕ) → n < 10 ^ suc j → length (digits k n) ≤ suc j
unfolding digits
length_digits zero j n h = omega arith
length_digits (suc k) zero n h = rw (below_true n 10 h, choose-true) (omega arith)
length_digits (suc k) (suc j) n h =
    let front : length (choose (below n 10) [] (digits k (n / 10))) ≤ suc j =
    choose-cases (λ (l : List ℕ). length l ≤ suc j) (below n 10) [] (digits k (n / 10)) (λ e. omega arith) (λ e. length_digits k j (n / 10) (tenth (suc j) n h)) in
    simp length-append (omega arith)

pub length-decimal : (j n : ℕ) → n < 10 ^ suc j → length (decimal n) ≤ suc j
unfolding decimal
length-decimal j n h = length_digits 20 j n h

-- with a minus
pub length-signed : (j : ℕ) (x : ℤ) → nat_abs x < 10 ^ suc j → length (signed x) ≤ 2 + j
unfolding signed
length-signed j (pos n) h = let u = length-decimal j n h in omega arith
length-signed j (negsuc n) h = let u = length-decimal j (suc n) h in simp length-append (omega arith)

-- in the line of a refusal
pub length-refused : (j n : ℕ) → n < 10 ^ suc j → length (refused_line n) ≤ 10 + j
unfolding refused_line
length-refused j n h = let u = length-decimal j n h in simp length-append (omega arith)
