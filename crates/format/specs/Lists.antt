-- Lists, as the definitions speak of them.
use Rattle.std.specs.Prelude.{Bool, List, [], ◌∷◌, ℕ, zero, suc, ◌<◌}
use Rattle.format.specs.Tests.{choose}

-- every member of a list is so
pub data All {A : Type 0} (P : A → Type 0) : List A → Type 0 where
  done : All P []
  more : {a : A} {l : List A} → P a → All P l → All P (a ∷ l)

-- some member of a list is so
pub data Any {A : Type 0} (P : A → Type 0) : List A → Type 0 where
  here : {a : A} {l : List A} → P a → Any P (a ∷ l)
  there : {a : A} {l : List A} → Any P l → Any P (a ∷ l)

-- a is the one member of a list that is so
pub data Only {A : Type 0} (P : A → Type 0) (a : A) : List A → Type 0 where
  found : {l : List A} → P a → All (λ (b : A). ¬ P b) l → Only P a (a ∷ l)
  later : {b : A} {l : List A} → ¬ P b → Only P a l → Only P a (b ∷ l)

-- what is made of each of the k numbers from i on, in order
unfoldable pub of_each : {A : Type 0} → (ℕ → A) → ℕ → ℕ → List A
of_each f zero i = []
of_each f (suc k) i = f i ∷ of_each f k (suc i)

-- how many of the k numbers from i on a test says yes to
unfoldable pub how_many : (ℕ → Bool) → ℕ → ℕ → ℕ
how_many f zero i = 0
how_many f (suc k) i = choose (f i) (suc (how_many f k (suc i))) (how_many f k (suc i))

-- n of the k numbers from i on are so
pub data Counts (P : ℕ → Type 0) : ℕ → ℕ → ℕ → Type 0 where
  none : {i : ℕ} → Counts P zero i zero
  one : {k i n : ℕ} → P i → Counts P k (suc i) n → Counts P (suc k) i (suc n)
  skipped : {k i n : ℕ} → ¬ P i → Counts P k (suc i) n → Counts P (suc k) i n

-- what a lent slice of bytes holds
abbrev pub IsBytes : List ℕ → Type 0
IsBytes l = All (λ (b : ℕ). b < 256) l
