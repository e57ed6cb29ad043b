-- The old entries as a new index has them: the data blocks stay, the table's entry is replaced in its place, no 'CKSM' entry is left.
use mathlib.Core.Bool.{true}
use mathlib.Core.List.{List, [], ◌∷◌, map}
use mathlib.Core.Logic.{◌≢◌}
use mathlib.Core.Path.{◌≡◌, refl, sym, ap, ◌∙◌}
use Prim.Native.Nat.{ℕ}
use Rattle.fields.specs.Bytes.{to_le, equal}
use Rattle.format.specs.declared.Entry.{Entry}
use Rattle.format.specs.Lists.{All, done, more}
use Rattle.format.specs.Layouts.{DBLK, DDT*, DDT2, CKSM}
use Rattle.format.specs.Opening.{is_type, is_user_data, offsets_with, offsets_of}
use Rattle.format.specs.Committing.{kept_entry, kept_entries}
use Rattle.format.specs.Facts.{Reindexed, end, stale, replaced, kept}
use Rattle.format.proofs.Tests.{never, choose-cases}
use Rattle.format.proofs.Named.{apart, type-on, type-off, user-data-on, user-data-true, user-data-false, offsets-yes, offsets-no, offsets-cons}

cksm-ddt : CKSM ≢ DDT*
unfolding equal
cksm-ddt = apart refl

cksm-dblk : CKSM ≢ DBLK
unfolding equal
cksm-dblk = apart refl

pub dblk-ddt : DBLK ≢ DDT*
unfolding equal
dblk-ddt = apart refl

pub dblk-ddt2 : DBLK ≢ DDT2
unfolding equal
dblk-ddt2 = apart refl

-- an entry with another offset is of the same kind
abbrev pub moved : ℕ → Entry → Entry
moved table e = record { blockType = e.blockType; dataType = e.dataType; offset = record { 0 = table } }

-- a property of every old entry that is kept, and of the table's new one
pub kept-all : (P : Entry → Type 0) (table : ℕ) (es : List Entry) → ((e : Entry) → P e → is_user_data DDT* e ≡ true → P (moved table e)) → All P es
    → All P (kept_entries table es)
unfolding kept_entries kept_entry
kept-all P table _ f done = done
kept-all P table _ f (more {a = e} {l = es} k ks) =
    let ih = kept-all P table es f ks in
    choose-cases (All P) (is_type CKSM e) _ _ (λ c. ih) (λ c. more (choose-cases P (is_user_data DDT* e) _ _ (f e k) (λ d. k)) ih)

-- which entries they are
pub reindexed-forth : (table : ℕ) (es : List Entry) → Reindexed table es (kept_entries table es)
unfolding kept_entries kept_entry
reindexed-forth table [] = end
reindexed-forth table (e ∷ es) =
    let ih = reindexed-forth table es in
    choose-cases (Reindexed table (e ∷ es)) (is_type CKSM e) _ _ (λ c. stale (type-on CKSM e c) ih)
    (λ c. choose-cases (λ (q : Entry). Reindexed table (e ∷ es) (q ∷ kept_entries table es)) (is_user_data DDT* e) _ _
    (λ d. replaced (user-data-on DDT* e d) ih)
    (λ d. kept (type-off CKSM e c) (λ u. never (user-data-true DDT* e u) d) ih))

pub reindexed-back : (table : ℕ) (es fs : List Entry) → Reindexed table es fs → kept_entries table es ≡ fs
unfolding kept_entries kept_entry
reindexed-back table _ _ end = refl
reindexed-back table _ fs (stale {e = e} {es = es} h r) =
    let ih = reindexed-back table es fs r in
    choose-cases (λ (l : List Entry). l ≡ fs) (is_type CKSM e) _ _ (λ c. ih) (λ c. absurd (type-off CKSM e c h))
reindexed-back table _ _ (replaced {e = e} {es = es} {fs = fs} u r) =
    let ih = reindexed-back table es fs r in
    choose-cases (λ (l : List Entry). l ≡ moved table e ∷ fs) (is_type CKSM e) _ _ (λ c. absurd (cksm-ddt (sym (type-on CKSM e c) ∙ u.type)))
    (λ c. choose-cases (λ (q : Entry). q ∷ kept_entries table es ≡ moved table e ∷ fs) (is_user_data DDT* e) _ _
    (λ d. ap (λ (l : List Entry). moved table e ∷ l) ih) (λ d. absurd (never (user-data-true DDT* e u) d)))
reindexed-back table _ _ (kept {e = e} {es = es} {fs = fs} h n r) =
    let ih = reindexed-back table es fs r in
    choose-cases (λ (l : List Entry). l ≡ e ∷ fs) (is_type CKSM e) _ _ (λ c. absurd (h (type-on CKSM e c)))
    (λ c. choose-cases (λ (q : Entry). q ∷ kept_entries table es ≡ e ∷ fs) (is_user_data DDT* e) _ _
    (λ d. absurd (n (user-data-on DDT* e d))) (λ d. ap (λ (l : List Entry). e ∷ l) ih))

-- the data blocks stay
pub kept-blocks : (table : ℕ) (es : List Entry) → offsets_of DBLK (kept_entries table es) ≡ offsets_of DBLK es
unfolding kept_entries kept_entry
kept-blocks table [] = refl
kept-blocks table (e ∷ es) =
    let ih = kept-blocks table es in
    choose-cases (λ (l : List Entry). offsets_of DBLK l ≡ offsets_of DBLK (e ∷ es)) (is_type CKSM e) _ _
    (λ c. ih ∙ sym (offsets-no (is_user_data DBLK) e es (user-data-false DBLK e (λ q. cksm-dblk (sym (type-on CKSM e c) ∙ q)))))
    (λ c. choose-cases (λ (q : Entry). offsets_of DBLK (q ∷ kept_entries table es) ≡ offsets_of DBLK (e ∷ es)) (is_user_data DDT* e) _ _
    (λ d.
    let n : to_le 4 e.blockType ≢ DBLK = λ q. dblk-ddt (sym q ∙ (user-data-on DDT* e d).type) in
    offsets-no (is_user_data DBLK) (moved table e) (kept_entries table es) (user-data-false DBLK (moved table e) n) ∙ ih ∙ sym (offsets-no (is_user_data DBLK) e es (user-data-false DBLK e n)))
    (λ d. offsets-cons (is_user_data DBLK) e (kept_entries table es) es ih))

-- the table's entry is replaced in its place
pub kept_table : (table : ℕ) (es : List Entry) → offsets_of DDT* (kept_entries table es) ≡ map (λ (o : ℕ). table) (offsets_of DDT* es)
unfolding kept_entries kept_entry offsets_with
kept_table table [] = refl
kept_table table (e ∷ es) =
    let ih = kept_table table es in
    let to : List ℕ → List ℕ = map (λ (o : ℕ). table) in
    choose-cases (λ (l : List Entry). offsets_of DDT* l ≡ to (offsets_of DDT* (e ∷ es))) (is_type CKSM e) _ _
    (λ c. ih ∙ ap to (sym (offsets-no (is_user_data DDT*) e es (user-data-false DDT* e (λ q. cksm-ddt (sym (type-on CKSM e c) ∙ q))))))
    (λ c. choose-cases (λ (q : Entry). offsets_of DDT* (q ∷ kept_entries table es) ≡ to (offsets_of DDT* (e ∷ es))) (is_user_data DDT* e) _ _
    (λ d.
    let u = user-data-on DDT* e d in
    offsets-yes (is_user_data DDT*) (moved table e) (kept_entries table es) (user-data-true DDT* (moved table e) (record { type = u.type; user_data = u.user_data }))
    ∙ ap (λ (l : List ℕ). table ∷ l) ih ∙ ap to (sym (offsets-yes (is_user_data DDT*) e es d)))
    (λ d. offsets-no (is_user_data DDT*) e (kept_entries table es) d ∙ ih ∙ ap to (sym (offsets-no (is_user_data DDT*) e es d))))
