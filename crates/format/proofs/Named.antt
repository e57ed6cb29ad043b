-- Letters and the numbers that they make; what an index names: the offsets of its entries for one kind of block, of user data.
use mathlib.Core.Bool.{Bool, true, false}
use mathlib.Core.List.{List, [], ◌∷◌, ◌++◌}
use mathlib.Core.Logic.Iff
use mathlib.Core.Logic.{◌≢◌, ◌⊎◌, inl, inr, ◌↔◌, ⊎_elim, ⊎_map}
use mathlib.Core.Path.{◌≡◌, refl, sym, ap, ◌∙◌, subst}
use Prim.Native.Nat.{ℕ, ◌^◌, ◌<◌}
use native.Mathlib.Omega.{arith}
use lib.ListN.{length}
use Rattle.fields.specs.Bytes.{from_le, to_le, field, equal}
use Rattle.fields.proofs.Numbers.{from_le-to_le}
use Rattle.fields.proofs.Equal.{equal-iff}
use Rattle.format.specs.declared.Entry.{Entry}
use Rattle.format.specs.Tests.{choose}
use Rattle.format.specs.Lists.{All, done, more, Any, here, there, Only, found, later}
use Rattle.format.specs.Layouts.{DDT*, DDT2, tag}
use Rattle.format.specs.Opening.{is_type, is_user_data, offsets_with, offsets_of, is_table}
use Rattle.format.specs.Reading.{has}
use Rattle.format.specs.Facts.{Identified, UserData, NamesTable}
use Rattle.format.proofs.Lists.{all_map}
use Rattle.format.proofs.Tests.{on-or-off, never, same-on, same_true, or-on, or-true-left, or_true_right, or_left, and-on, and-true, and-iff, choose-true, choose-false, choose-cases}

-- ---- letters that differ
pub apart : {a b : List ℕ} → equal a b ≡ false → a ≢ b
apart h e = never (equal-iff.1 e) h

-- ---- letters, as a number
pub identified-number : (y : List ℕ) (at : ℕ) (letters : List ℕ) → Identified y at letters → field y at (length letters) ≡ tag letters
unfolding Identified field tag
identified-number y at letters h = ap from_le h

pub type-number : {letters : List ℕ} (e : Entry) → e.blockType < 256 ^ 4 → UserData letters e → e.blockType ≡ tag letters
unfolding tag
type-number e h u = sym (from_le-to_le 4 e.blockType h) ∙ ap from_le u.type

-- ---- one entry
module _ (letters : List ℕ) (e : Entry) where
  pub type-on : is_type letters e ≡ true → to_le 4 e.blockType ≡ letters
  unfolding is_type
  type-on h = equal-iff.0 h

  pub type-true : to_le 4 e.blockType ≡ letters → is_type letters e ≡ true
  unfolding is_type
  type-true h = equal-iff.1 h

  pub type-off : is_type letters e ≡ false → to_le 4 e.blockType ≢ letters
  type-off h k = never (type-true k) h

  type-false : to_le 4 e.blockType ≢ letters → is_type letters e ≡ false
  type-false h = ⊎_elim (λ n. absurd (h (type-on n))) (λ n. n) (on-or-off (is_type letters e))

  pub user-data-on : is_user_data letters e ≡ true → UserData letters e
  unfolding is_user_data
  user-data-on h = let r = and-on _ _ h in record { type = type-on r.0; user_data = same-on _ _ r.1 }

  pub user-data-true : UserData letters e → is_user_data letters e ≡ true
  unfolding is_user_data
  user-data-true k = and-true _ _ (type-true k.type) (same_true _ _ k.user_data)

  pub user-data-false : to_le 4 e.blockType ≢ letters → is_user_data letters e ≡ false
  unfolding is_user_data
  user-data-false h = (and-iff (type-off, type-false) Iff.rfl).1 (inl h)

  user-data-iff : (is_user_data letters e ≡ true) ↔ UserData letters e
  user-data-iff = (user-data-on, user-data-true)

-- an entry for a table of either kind
pub table-iff : (e : Entry) → (is_table e ≡ true) ↔ NamesTable e
unfolding is_table
table-iff e = (
  (λ h. ⊎_map (user-data-on DDT* e) (user-data-on DDT2 e) (or-on _ _ h)),
  ⊎_elim (λ u. or-true-left _ _ (user-data-true DDT* e u)) (λ u. or_true_right _ _ (user-data-true DDT2 e u)),
)

-- ---- the offsets of the entries that a test says yes to
module _ (f : Entry → Bool) where
  pub offsets-yes : (e : Entry) (es : List Entry) → f e ≡ true → offsets_with f (e ∷ es) ≡ e.offset.0 ∷ offsets_with f es
  unfolding offsets_with
  offsets-yes e es h = choose-true _ _ _ h

  pub offsets-no : (e : Entry) (es : List Entry) → f e ≡ false → offsets_with f (e ∷ es) ≡ offsets_with f es
  unfolding offsets_with
  offsets-no e es h = choose-false _ _ _ h

  pub offsets-cons : (e : Entry) (a b : List Entry) → offsets_with f a ≡ offsets_with f b → offsets_with f (e ∷ a) ≡ offsets_with f (e ∷ b)
  unfolding offsets_with
  offsets-cons e a b h = ap (λ (l : List ℕ). choose (f e) (e.offset.0 ∷ l) l) h

  pub offsets-all : (P : ℕ → Type 0) (es : List Entry) → All (λ (e : Entry). P e.offset.0) es → All P (offsets_with f es)
  unfolding offsets_with
  offsets-all P _ done = done
  offsets-all P _ (more {a = e} {l = es} k ks) =
      let r = offsets-all P es ks in
      choose-cases (All P) (f e) _ _ (λ h. more k r) (λ h. r)

  pub offsets-append : (a b : List Entry) → offsets_with f (a ++ b) ≡ offsets_with f a ++ offsets_with f b
  unfolding offsets_with
  offsets-append [] b = refl
  offsets-append (e ∷ a) b =
      let ih = offsets-append a b in
      choose-cases (λ (l : List ℕ). offsets_with f (e ∷ (a ++ b)) ≡ l ++ offsets_with f b) (f e) _ _
      (λ h. offsets-yes e (a ++ b) h ∙ ap (λ (l : List ℕ). e.offset.0 ∷ l) ih) (λ h. offsets-no e (a ++ b) h ∙ ih)

  -- two tests that agree on the entries
  pub offsets-same : (g : Entry → Bool) (es : List Entry) → All (λ (e : Entry). f e ≡ g e) es → offsets_with f es ≡ offsets_with g es
  unfolding offsets_with
  offsets-same g _ done = refl
  offsets-same g _ (more {a = e} {l = es} h hs) = rw (h, offsets-same g es hs)

-- ---- a member
has-cons : (b c : ℕ) (l : List ℕ) → has b (c ∷ l) ≡ true → (c ≡ b) ⊎ (has b l ≡ true)
unfolding has
has-cons b c l h = ⊎_elim (λ e. inl (same-on _ _ e)) inr (or-on _ _ h)

pub has-head : (b c : ℕ) (l : List ℕ) → c ≡ b → has b (c ∷ l) ≡ true
unfolding has
has-head b c l e = or-true-left _ _ (same_true c b e)

has-tail : (b c : ℕ) (l : List ℕ) → has b l ≡ true → has b (c ∷ l) ≡ true
unfolding has
has-tail b c l h = or_true_right _ _ h

has-none : (b : ℕ) → has b [] ≡ true → ⊥
unfolding has
has-none b h = never h refl

pub has_all : (P : ℕ → Type 0) (b : ℕ) (l : List ℕ) → All P l → has b l ≡ true → P b
has_all P b _ done h = absurd (has-none b h)
has_all P b _ (more {a = c} {l = l} k ks) h = ⊎_elim (λ e. subst P e k) (has_all P b l ks) (has-cons b c l h)

pub has_left : (b : ℕ) (l m : List ℕ) → has b l ≡ true → has b (l ++ m) ≡ true
has_left b [] m h = absurd (has-none b h)
has_left b (c ∷ l) m h = ⊎_elim (has-head b c (l ++ m)) (λ e. has-tail b c (l ++ m) (has_left b l m e)) (has-cons b c l h)

pub has_right : (b : ℕ) (l m : List ℕ) → has b m ≡ true → has b (l ++ m) ≡ true
has_right b [] m h = h
has_right b (c ∷ l) m h = has-tail b c (l ++ m) (has_right b l m h)

-- ---- a block is named exactly if some entry names it
abbrev pub NamesBlock : List ℕ → ℕ → Entry → Type 0
NamesBlock letters b e = UserData letters e × (e.offset.0 ≡ b)

named-forth : (letters : List ℕ) (b : ℕ) (es : List Entry) → has b (offsets_of letters es) ≡ true → Any (NamesBlock letters b) es
unfolding offsets_with
named-forth letters b [] h = absurd (has-none b h)
named-forth letters b (e ∷ es) h =
    let ih = named-forth letters b es in
    choose-cases (λ (l : List ℕ). has b l ≡ true → Any (NamesBlock letters b) (e ∷ es)) (is_user_data letters e) _ _
    (λ n k. ⊎_elim (λ q. here (user-data-on letters e n, q)) (λ q. there (ih q)) (has-cons b e.offset.0 (offsets_of letters es) k))
    (λ n k. there (ih k)) h

named_back : (letters : List ℕ) (b : ℕ) (es : List Entry) → Any (NamesBlock letters b) es → has b (offsets_of letters es) ≡ true
unfolding offsets_with
named_back letters b _ (here {a = e} {l = es} n) =
    ap (has b) (offsets-yes (is_user_data letters) e es (user-data-true letters e n.0)) ∙ has-head b e.offset.0 (offsets_of letters es) n.1
named_back letters b _ (there {a = e} {l = es} r) =
    let ih = named_back letters b es r in
    choose-cases (λ (l : List ℕ). has b l ≡ true) (is_user_data letters e) _ _ (λ n. has-tail b e.offset.0 (offsets_of letters es) ih) (λ n. ih)

pub named : (letters : List ℕ) (b : ℕ) (es : List Entry) → (has b (offsets_of letters es) ≡ true) ↔ Any (NamesBlock letters b) es
named letters b es = (named-forth letters b es, named_back letters b es)

-- ---- one offset, exactly if one entry names it; a test that says yes exactly to the entries that are P
pub record OnlyEntry (P : Entry → Type 0) (es : List Entry) (t : ℕ) : Type 0 where
  pub entry : Entry
  pub only : Only P entry es
  pub place : entry.offset.0 ≡ t

module _ (f : Entry → Bool) (P : Entry → Type 0) (says : (e : Entry) → (f e ≡ true) ↔ P e) where
  test-off : (e : Entry) → f e ≡ false → ¬ P e
  test-off e h k = never ((says e).1 k) h

  test-not : (e : Entry) → ¬ P e → f e ≡ false
  test-not e h = ⊎_elim (λ n. absurd (h ((says e).0 n))) (λ n. n) (on-or-off (f e))

  none-forth : (es : List Entry) → offsets_with f es ≡ [] → All (λ (e : Entry). ¬ P e) es
  unfolding offsets_with
  none-forth [] h = done
  none-forth (e ∷ es) h =
      let ih = none-forth es in
      choose-cases (λ (l : List ℕ). l ≡ [] → All (λ (q : Entry). ¬ P q) (e ∷ es)) (f e) _ _
      (λ n q. let z : ◌≡◌ {A = ℕ} 0 1 = cc in absurd (omega arith)) (λ n q. more (test-off e n) (ih q)) h

  none-back : (es : List Entry) → All (λ (e : Entry). ¬ P e) es → offsets_with f es ≡ []
  unfolding offsets_with
  none-back _ done = refl
  none-back _ (more {a = e} {l = es} h hs) = offsets-no f e es (test-not e h) ∙ none-back es hs

  only-forth : (es : List Entry) (t : ℕ) → offsets_with f es ≡ t ∷ [] → OnlyEntry P es t
  unfolding offsets_with
  only-forth [] t h = let z : ◌≡◌ {A = ℕ} 0 1 = cc in absurd (omega arith)
  only-forth (e ∷ es) t h =
      let ih = only-forth es t in
      choose-cases (λ (l : List ℕ). l ≡ t ∷ [] → OnlyEntry P (e ∷ es) t) (f e) _ _
      (λ n q.
      let rest : offsets_with f es ≡ [] = cc in
      let place : e.offset.0 ≡ t = cc in
      record { entry = e; only = found ((says e).0 n) (none-forth es rest); place = place })
      (λ n q. let r = ih q in record { entry = r.entry; only = later (test-off e n) r.only; place = r.place }) h

  only-back : (e : Entry) (es : List Entry) → Only P e es → offsets_with f es ≡ e.offset.0 ∷ []
  only-back e _ (found {l = es} u none) = offsets-yes f e es ((says e).1 u) ∙ ap (λ (l : List ℕ). e.offset.0 ∷ l) (none-back es none)
  only-back e _ (later {b = b} {l = es} h r) = offsets-no f b es (test-not b h) ∙ only-back e es r

  only-named : (es : List Entry) (t : ℕ) → (offsets_with f es ≡ t ∷ []) ↔ OnlyEntry P es t
  only-named es t = (only-forth es t, λ k. only-back k.entry es k.only ∙ ap (λ (n : ℕ). n ∷ []) k.place)

-- every entry that is so is the one at that offset
only-all : (P : Entry → Type 0) (e : Entry) (es : List Entry) → Only P e es → All (λ (b : Entry). P b → b ≡ e) es
only-all P e _ (found u none) = more (λ h. refl) (all_map (λ b n h. absurd (n h)) none)
only-all P e _ (later n r) = more (λ h. absurd (n h)) (only-all P e _ r)

-- the one table
pub table-named : (es : List Entry) (t : ℕ) → (offsets_with is_table es ≡ t ∷ []) ↔ OnlyEntry NamesTable es t
table-named = only-named is_table NamesTable table-iff

pub table-offset : (es : List Entry) (t : ℕ) → offsets_with is_table es ≡ t ∷ [] → All (λ (b : Entry). NamesTable b → b.offset.0 ≡ t) es
table-offset es t h =
    let k = (table-named es t).0 h in
    all_map (λ b f u. ap (λ (e : Entry). e.offset.0) (f u) ∙ k.place) (only-all NamesTable k.entry es k.only)

-- where no entry is for a table of the second kind, the tables are those of the first
pub tables-first : (es : List Entry) → All (λ (e : Entry). ¬ UserData DDT2 e) es → offsets_with is_table es ≡ offsets_of DDT* es
unfolding is_table
tables-first es h =
    offsets-same is_table (is_user_data DDT*) es
    (all_map (λ e n. or_left _ (test-not (is_user_data DDT2) (UserData DDT2) (user-data-iff DDT2) e n)) h)
