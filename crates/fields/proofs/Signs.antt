-- Signed numbers, as the machine has them: a number is read back from its bits, `again x`, which is x where x fits.
use mathlib.Core.Bool.{Bool, true, false}
use mathlib.Core.Path.{◌≡◌, refl, sym, ap, ◌∙◌}
use Prim.Native.Nat.{ℕ, zero, suc, ◌^◌, ◌<◌}
use native.Mathlib.Omega.{arith}
use lib.Dec.{ltb}
use lib.IntN.{ℤ, pos, neg_ℤ, ◌+ℤ◌, ◌-ℤ◌, +ℤ_comm}
use lib.Signed.{lt_z, mag}
use mir.Syntax.{w16, w64}
use mir.Val.{Fits, SFits, to_z, of_z}
use mir.Facts.{to_z-of_z, to_z_pos}

abbrev pub again : ℤ → ℤ
again x = to_z w64 (of_z w64 x)

-- an element of a lent list, which is of the type
pub read_back : (x : ℤ) → mag x < 2 ^ 63 → again x ≡ x
read_back x f = let k : SFits w64 x = record { sfits = f } in to_z-of_z k

-- what a test of its sign tells
pub sign-is : (x : ℤ) → SFits w64 x → {b : Bool} → lt_z (again x) (pos 0) ≡ b → lt_z x (pos 0) ≡ b
sign-is x f t = ap (λ (y : ℤ). lt_z y (pos 0)) (sym (to_z-of_z f)) ∙ t

-- ---- n - m for a number m of two bytes
module _ (n m : ℕ) (h : n < 2 ^ 63) (f : Fits w16 m) where
  difference : to_z w64 n -ℤ to_z w64 m ≡ pos n -ℤ pos m
  difference = ap (λ (z : ℤ). z -ℤ to_z w64 m) (to_z_pos w64 {n = n} h) ∙ ap (λ (z : ℤ). pos n -ℤ z) (to_z_pos w64 {n = m} (omega (arith, f)))

  within : (m : ℕ) → m < 65536 → SFits w64 (pos n -ℤ pos m)
  within zero k = record { sfits = omega arith }
  within (suc m) k = go (ltb n (suc m)) refl
    where
      go : (b : Bool) → ltb n (suc m) ≡ b → SFits w64 (pos n -ℤ pos (suc m))
      go true e = rw e (record { sfits = omega arith })
      go false e = rw e (record { sfits = omega arith })

  pub difference-fits : SFits w64 (to_z w64 n -ℤ to_z w64 m)
  difference-fits = rw difference (within m f.fits)

  -- the number that follows minus m by n
  pub difference-is : again (to_z w64 n -ℤ to_z w64 m) ≡ neg_ℤ (pos m) +ℤ pos n
  difference-is = ap again difference ∙ to_z-of_z (within m f.fits) ∙ +ℤ_comm (pos n) (neg_ℤ (pos m))
