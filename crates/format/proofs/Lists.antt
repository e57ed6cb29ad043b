-- Laws of the lists that the definitions speak of.
use mathlib.Core.Bool.{Bool, true, false}
use mathlib.Core.List.{List, [], ◌∷◌, ◌++◌, map, flatten}
use mathlib.Core.Logic.{◌≢◌, ⊎_elim, ◌↔◌}
use mathlib.Core.Path.{◌≡◌, refl, sym, ap, ◌∙◌}
use Prim.Native.Nat.{ℕ, zero, suc, ◌+◌, ◌*◌, ◌≤◌, ◌<◌}
use native.Mathlib.Nat.{add-zero, zero-mul, suc-mul, not-suc-le-zero, le_of_suc-le-suc, eq-or-lt_of_le}
use native.Mathlib.Omega.{arith}
use lib.ListN.{length, take, drop, get_or, replicate, length-append}
use Rattle.format.specs.Lists.{All, done, more, of_each, how_many, Counts, none, one, skipped}
use Rattle.format.proofs.Tests.{on-or-off, never, choose-true, choose-false, choose-cases}

-- ---- no member
pub empty : {A : Type 0} (l : List A) → length l ≤ 0 → l ≡ []
empty [] h = refl
empty (a ∷ l) h = absurd (omega arith)

pub not-empty : {A : Type 0} (l : List A) → l ≢ [] → length l ≢ 0
not-empty l h e = h (empty l (omega arith))

-- ---- every member
pub all_append : {A : Type 0} {P : A → Type 0} {a b : List A} → All P a → All P b → All P (a ++ b)
all_append done q = q
all_append (more h p) q = more h (all_append p q)

pub all_map : {A : Type 0} {P Q : A → Type 0} {l : List A} → ((a : A) → P a → Q a) → All P l → All Q l
all_map f done = done
all_map f (more {a = a} h hs) = more (f a h) (all_map f hs)

pub all_both : {A : Type 0} {P Q : A → Type 0} {l : List A} → All P l → All Q l → All (λ (a : A). P a × Q a) l
all_both done done = done
all_both (more h hs) (more k ks) = more (h, k) (all_both hs ks)

pub all-image : {A B : Type 0} {P : B → Type 0} (f : A → B) → ((a : A) → P (f a)) → (l : List A) → All P (map f l)
all-image f h [] = done
all-image f h (a ∷ l) = more (h a) (all-image f h l)

-- of what is made of each member
pub all-mapped : {A B : Type 0} (f : A → B) {P : A → Type 0} {Q : B → Type 0} {l : List A} → ((a : A) → P a → Q (f a)) → All P l → All Q (map f l)
all-mapped f g done = done
all-mapped f g (more {a = a} h hs) = more (g a h) (all-mapped f g hs)

pub all_head : {A : Type 0} {P : A → Type 0} {a : A} {l : List A} → All P (a ∷ l) → P a
all_head (more h hs) = h

pub all_tail : {A : Type 0} {P : A → Type 0} {a : A} {l : List A} → All P (a ∷ l) → All P l
all_tail (more h hs) = hs

pub all-get : {A : Type 0} {P : A → Type 0} {l : List A} (d : A) → All P l → (j : ℕ) → j < length l → P (get_or l j d)
all-get d done j h = absurd (not-suc-le-zero h)
all-get d (more k ks) zero h = k
all-get d (more k ks) (suc j) h = all-get d ks j (le_of_suc-le-suc h)

module _ {A : Type 0} {P : A → Type 0} where
  pub all_take : (l : List A) → All P l → (n : ℕ) → All P (take n l)
  all_take _ done zero = done
  all_take _ done (suc n) = done
  all_take _ (more h hs) zero = done
  all_take _ (more {l = l} h hs) (suc n) = more h (all_take l hs n)

  pub all_drop : (l : List A) → All P l → (n : ℕ) → All P (drop n l)
  all_drop _ done zero = done
  all_drop _ done (suc n) = done
  all_drop _ (more h hs) zero = more h hs
  all_drop _ (more {l = l} h hs) (suc n) = all_drop l hs n

  pub all_replicate : (n : ℕ) (a : A) → P a → All P (replicate n a)
  all_replicate zero a h = done
  all_replicate (suc n) a h = more h (all_replicate n a h)

pub get_d_map : {A B : Type 0} (f : A → B) (l : List A) (j : ℕ) (d : A) (e : B) → j < length l → get_or (map f l) j e ≡ f (get_or l j d)
get_d_map f [] j d e h = absurd (not-suc-le-zero h)
get_d_map f (a ∷ l) zero d e h = refl
get_d_map f (a ∷ l) (suc j) d e h = get_d_map f l j d e (le_of_suc-le-suc h)

-- ---- pieces of one size
abbrev pub Sized : ℕ → List ℕ → Type 0
Sized n l = length l ≡ n

pub length-flatten : (n : ℕ) (ls : List (List ℕ)) → All (Sized n) ls → length (flatten ls) ≡ length ls * n
unfolding flatten
length-flatten n _ done = sym (zero-mul n)
length-flatten n _ (more {a = l} {l = ls} h hs) = length-append l (flatten ls) ∙ rw (h, length-flatten n ls hs, suc-mul) (omega arith)

pub all-flatten : {P : ℕ → Type 0} {ls : List (List ℕ)} → All (All P) ls → All P (flatten ls)
unfolding flatten
all-flatten done = done
all-flatten (more h hs) = all_append h (all-flatten hs)

-- ---- made of each number
module _ {A : Type 0} (f : ℕ → A) where
  pub length-of_each : (k i : ℕ) → length (of_each f k i) ≡ k
  unfolding of_each
  length-of_each zero i = refl
  length-of_each (suc k) i = ap suc (length-of_each k (suc i))

  pub get_or-of_each : (d : A) (k i j : ℕ) → j < k → get_or (of_each f k i) j d ≡ f (i + j)
  unfolding of_each
  get_or-of_each d zero i j h = absurd (not-suc-le-zero h)
  get_or-of_each d (suc k) i zero h = ap f (sym (add-zero i))
  get_or-of_each d (suc k) i (suc j) h =
      let e : suc i + j ≡ i + suc j = omega arith in
      get_or-of_each d k (suc i) j (le_of_suc-le-suc h) ∙ ap f e

  pub all-of_each : {P : A → Type 0} (k i : ℕ) → ((a : ℕ) → i ≤ a → a < i + k → P (f a)) → All P (of_each f k i)
  unfolding of_each
  all-of_each zero i h = done
  all-of_each (suc k) i h = more (h i (omega arith) (omega arith)) (all-of_each k (suc i) (λ a l b. h a (omega arith) (omega arith)))

  -- a list by its members
  pub of_each-is : (d : A) (l : List A) (i : ℕ) → ((j : ℕ) → j < length l → f (i + j) ≡ get_or l j d) → of_each f (length l) i ≡ l
  unfolding of_each
  of_each-is d [] i h = refl
  of_each-is d (x ∷ l) i h =
      let e : f i ≡ x = ap f (sym (add-zero i)) ∙ h 0 (omega arith) in
      let es : of_each f (length l) (suc i) ≡ l =
      of_each-is d l (suc i) (λ j k. let q : suc i + j ≡ i + suc j = omega arith in ap f q ∙ h (suc j) (omega arith)) in
      λ j. e j ∷ es j

-- ---- how many a test says yes to
module _ (f : ℕ → Bool) where
  pub how_many-most : (k i : ℕ) → how_many f k i ≤ k
  unfolding how_many
  how_many-most zero i = omega arith
  how_many-most (suc k) i =
      choose-cases (λ n. n ≤ suc k) (f i) _ _ (λ e. omega (arith, how_many-most k (suc i))) (λ e. omega (arith, how_many-most k (suc i)))

  -- to all of them
  pub how_many-all : (k i : ℕ) → ((a : ℕ) → i ≤ a → a < i + k → f a ≡ true) → how_many f k i ≡ k
  unfolding how_many
  how_many-all zero i h = refl
  how_many-all (suc k) i h = choose-true _ _ _ (h i (omega arith) (omega arith)) ∙ ap suc (how_many-all k (suc i) (λ a l b. h a (omega arith) (omega arith)))

  pub how_many-every : (k i : ℕ) → how_many f k i ≡ k → (a : ℕ) → i ≤ a → a < i + k → f a ≡ true
  unfolding how_many
  how_many-every zero i e a l b = absurd (omega arith)
  how_many-every (suc k) i e a l b =
      ⊎_elim
      (λ q.
      ⊎_elim (λ m. ap f (sym m) ∙ q) (λ m. how_many-every k (suc i) (omega (arith, sym (choose-true _ _ _ q) ∙ e)) a m (omega arith)) (eq-or-lt_of_le l))
      (λ q. absurd (omega (arith, how_many-most k (suc i), sym (choose-false _ _ _ q) ∙ e))) (on-or-off (f i))

  -- the same of what is so exactly if the test says yes
  module _ {P : ℕ → Type 0} where
    pub how_many-counts : (k i : ℕ) → ((a : ℕ) → i ≤ a → a < i + k → (f a ≡ true) ↔ P a) → Counts P k i (how_many f k i)
    unfolding how_many
    how_many-counts zero i h = none
    how_many-counts (suc k) i h =
        let rest = how_many-counts k (suc i) (λ a l b. h a (omega arith) (omega arith)) in
        let here = h i (omega arith) (omega arith) in
        choose-cases (Counts P (suc k) i) (f i) _ _ (λ e. one (here.0 e) rest) (λ e. skipped (λ p. never (here.1 p) e) rest)

    pub counts-is : (k i n : ℕ) → ((a : ℕ) → i ≤ a → a < i + k → (f a ≡ true) ↔ P a) → Counts P k i n → how_many f k i ≡ n
    unfolding how_many
    counts-is _ i _ h none = refl
    counts-is _ i _ h (one {k = k} {n = n} p c) =
        choose-true _ _ _ ((h i (omega arith) (omega arith)).1 p) ∙ ap suc (counts-is k (suc i) n (λ a l b. h a (omega arith) (omega arith)) c)
    counts-is _ i n h (skipped {k = k} p c) =
        choose-false _ _ _ (⊎_elim (λ e. absurd (p ((h i (omega arith) (omega arith)).0 e))) (λ e. e) (on-or-off (f i)))
        ∙ counts-is k (suc i) n (λ a l b. h a (omega arith) (omega arith)) c

-- to none of them
pub how_many-none : (f : ℕ → Bool) (k i : ℕ) → ((a : ℕ) → i ≤ a → a < i + k → f a ≡ false) → how_many f k i ≡ 0
unfolding how_many
how_many-none f zero i h = refl
how_many-none f (suc k) i h = choose-false _ _ _ (h i (omega arith) (omega arith)) ∙ how_many-none f k (suc i) (λ a l b. h a (omega arith) (omega arith))
