-- Which sectors are among the stored ones, said without their list: of sectors that the old disc does not hold, those that were handed in.
use mathlib.Core.List.{List, [], ◌∷◌, ◌++◌}
use mathlib.Core.Logic.{◌⊎◌, ⊎_elim, ⊎_map, inl, inr, ◌↔◌}
use mathlib.Core.Option.{Option, none, some}
use mathlib.Core.Path.{◌≡◌, refl, ap, ◌∙◌, subst}
use Prim.Native.Nat.{ℕ, zero, suc, ◌+◌, ◌*◌, ◌<◌}
use native.Mathlib.Nat.{zero-mul, suc-mul}
use native.Mathlib.Numerals.{add-one}
use native.Mathlib.Omega.{arith}
use lib.ListN.{length, take, drop}
use lib.Seq.{drop-drop}
use Rattle.fields.specs.Bytes.{part}
use Rattle.format.specs.Lists.{here, there}
use Rattle.format.specs.Opening.{Opened}
use Rattle.format.specs.Committing.{on_disc, among_stored, pieces, step_for, store_one}
use Rattle.format.proofs.Storing.{Among, among-some, among_none}
use Rattle.planning.specs.Plans.{sector_of, missing, is_new}

-- ---- one more of them
among-long : (l : List (List ℕ)) (d : List ℕ) → Among l d → 0 < length l
among-long _ d (here e) = omega arith
among-long _ d (there h) = omega arith

more-forth : (l : List (List ℕ)) (x d : List ℕ) → Among (l ++ (x ∷ [])) d → Among l d ⊎ (x ≡ d)
more-forth [] x d (here e) = inr e
more-forth [] x d (there h) = absurd (omega (arith, among-long [] d h))
more-forth (y ∷ l) x d (here e) = inl (here e)
more-forth (y ∷ l) x d (there h) = ⊎_map there (λ e. e) (more-forth l x d h)

more-old : (x d : List ℕ) (l : List (List ℕ)) → Among l d → Among (l ++ (x ∷ [])) d
more-old x d _ (here e) = here e
more-old x d _ (there {l = l} h) = there (more-old x d l h)

more-new : (l : List (List ℕ)) (x d : List ℕ) → x ≡ d → Among (l ++ (x ∷ [])) d
more-new [] x d e = here e
more-new (y ∷ l) x d e = there (more-new l x d e)

pub among-more : (l : List (List ℕ)) (x d : List ℕ) → Among (l ++ (x ∷ [])) d ↔ (Among l d ⊎ (x ≡ d))
among-more l x d = (more-forth l x d, ⊎_elim (more-old x d l) (more-new l x d))

pub pieces_more : (k size : ℕ) (l : List ℕ) → pieces (suc k) size l ≡ pieces k size l ++ (sector_of size l k ∷ [])
unfolding pieces part
pieces_more zero size l = rw zero-mul
pieces_more (suc k) size l =
    let e : size + k * size ≡ suc k * size = omega (arith, suc-mul k size) in
    ap (λ (ls : List (List ℕ)). take size l ∷ ls)
    (pieces_more k size (drop size l)
    ∙ ap (λ (x : List ℕ). pieces k size (drop size l) ++ (take size x ∷ [])) (drop-drop (k * size) size l ∙ ap (λ n. drop n l) e))

-- ---- one more sector: it is among the stored ones then
module _ (img : List ℕ) (t : Opened) where
  pub step-among : (block : ℕ) (st : List (List ℕ)) (x d : List ℕ) → on_disc img t d ≡ none → Among (store_one img t block st x).stored d ↔ (Among st d ⊎ (x ≡ d))
  unfolding store_one step_for
  step-among block st x d n = go (on_disc img t x) refl (among_stored st x) refl
    where
      go : (u : Option ℕ) → on_disc img t x ≡ u → (v : Option ℕ) → among_stored st x ≡ v → Among (step_for img t block st x u v).stored d ↔ (Among st d ⊎ (x ≡ d))
      go (some a) e v f = (
        inl,
        ⊎_elim (λ h. h) (λ (q : x ≡ d). let s : on_disc img t d ≡ some a = rw (← q) e in let z : ◌≡◌ {A = ℕ} 0 1 = cc in absurd (omega arith)),
      )
      go none e (some j) f = (inl, ⊎_elim (λ h. h) (λ q. subst (Among st) q (among-some st x j f)))
      go none e none f = among-more st x d

-- ---- the stored ones hold what the first k handed-in ones hold
module _ (img : List ℕ) (t : Opened) (size : ℕ) (sectors : List ℕ) where
  abbrev pub Same : ℕ → List (List ℕ) → Type 0
  Same k st = (d : List ℕ) → on_disc img t d ≡ none → Among st d ↔ Among (pieces k size sectors) d

  pub same-starts : Same 0 []
  unfolding pieces
  same-starts d n = (λ h. h, λ h. h)

  pub same_more : (block k : ℕ) (st : List (List ℕ)) → Same k st → Same (k + 1) (store_one img t block st (sector_of size sectors k)).stored
  same_more block k st s d n =
      let x = sector_of size sectors k in
      let p = among-more (pieces k size sectors) x d in
      let q = step-among img t block st x d n in
      rw (add-one, pieces_more k size sectors) (
        (λ h. p.1 (⊎_map (s d n).0 (λ y. y) (q.0 h))),
        λ h. q.1 (⊎_map (s d n).1 (λ y. y) (p.0 h)),
      )

  -- sector k is found among the stored ones exactly if one before it equals it
  pub same_new : (k : ℕ) (st : List (List ℕ)) → Same k st → on_disc img t (sector_of size sectors k) ≡ none
      → is_new size sectors k ≡ missing (among_stored st (sector_of size sectors k))
  unfolding is_new missing
  same_new k st s n = go (among_stored (pieces k size sectors) x) refl (among_stored st x) refl
    where
      x : List ℕ
      x = sector_of size sectors k

      go : (u : Option ℕ) → among_stored (pieces k size sectors) x ≡ u → (v : Option ℕ) → among_stored st x ≡ v → missing u ≡ missing v
      go none e none f = refl
      go (some i) e (some j) f = refl
      go (some i) e none f = absurd (among_none st x f ((s x n).1 (among-some _ x i e)))
      go none e (some j) f = absurd (among_none _ x e ((s x n).0 (among-some st x j f)))
