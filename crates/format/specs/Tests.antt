-- The tests that the checks of document 01 are made of. All numbers are whole numbers, so no sum of places wraps.
use Rattle.std.specs.Prelude.{Bool, true, false, not, List, [], ◌∷◌, ℕ, ltb, leb, eqb, ℤ}
use Rattle.std.specs.Int.Signed.{lt_z}

unfoldable pub same : ℕ → ℕ → Bool
same a b = eqb a b

unfoldable pub differs : ℕ → ℕ → Bool
differs a b = not (eqb a b)

unfoldable pub below : ℕ → ℕ → Bool
below a b = ltb a b

unfoldable pub at_least : ℕ → ℕ → Bool
at_least a b = leb b a

-- of signed numbers
unfoldable pub less_than : ℤ → ℤ → Bool
less_than a b = lt_z a b

infixr 25 ◌or◌
unfoldable pub ◌or◌ : Bool → Bool → Bool
true or b = true
false or b = b

infixr 26 ◌and◌
unfoldable pub ◌and◌ : Bool → Bool → Bool
true and b = b
false and b = false

-- the first where the test says yes, else the second
unfoldable pub choose : {A : Type 0} → Bool → A → A → A
choose true a b = a
choose false a b = b

-- all tests of a table say yes
unfoldable pub all_hold : List Bool → Bool
all_hold [] = true
all_hold (b ∷ bs) = b and all_hold bs
