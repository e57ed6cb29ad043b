-- A new image: no sector of it is written, so that what a commit appends to it is known by the sectors alone; the answer of a creation and that commit.
use mathlib.Core.Bool.{Bool, true, false}
use mathlib.Core.List.{List, [], ◌∷◌, ◌++◌, append-nil}
use mathlib.Core.Logic.{◌≢◌, ⊎_elim}
use mathlib.Core.Option.{Option, none, some, or_else}
use mathlib.Core.Path.{◌≡◌, refl, sym, ap, ◌∙◌}
use Prim.Native.Nat.{ℕ, zero, suc, ◌+◌, ◌≤◌, ◌<◌}
use native.Mathlib.Nat.{le_refl, add-zero, zero-add, eq-or-lt_of_le}
use native.Mathlib.Omega.{arith}
use lib.ListN.{length, take, length-append}
use Rattle.std.specs.Prelude.{Ok, Err}
use Rattle.fields.specs.Bytes.{overwrite}
use Rattle.fields.proofs.Overwrite.{length-overwrite}
use Rattle.format.specs.declared.Pointer.{Pointer}
use Rattle.format.specs.Lists.{All, done, more}
use Rattle.format.specs.Tests.{same, choose}
use Rattle.format.specs.Refusals.{refusal}
use Rattle.format.specs.Layouts.{application_length, index_offset, entries}
use Rattle.format.specs.Opening.{Opened, opened}
use Rattle.format.specs.Writing.{most_sectors, placed, set_header}
use Rattle.format.specs.Creating.{created_index_at, created_used}
use Rattle.format.specs.Committing.{on_disc, pieces, Step, Stored, store_all, stored_for, given, old_pointer, new_pointer, new_pointers, pointers_for, index_start, used_after, appended_bytes, appended_for, appended}
use Rattle.format.specs.Answers.{answered}
use Rattle.format.proofs.Tests.{below_true, below-iff, same_true, same-iff, choose-true, choose-false}
use Rattle.format.proofs.Lists.{all_append, all_map}
use Rattle.format.proofs.Addresses.{given-other}
use Rattle.format.proofs.Checks.{Sound}
use Rattle.format.proofs.Ends.{disc-some}
use Rattle.format.proofs.Created.{length-new}
use Rattle.format.proofs.Chains.{stop-last, on-last}
use Rattle.format.proofs.Answers.{outcome-stops, outcome-done}
use Rattle.format.proofs.Composing.{made, made-offset, made-sound, made-opened, made-entries, made-unwritten, made-empty, Composable, composed_used, composed_index, composed, composed-is, image-is}
use Rattle.storing.specs.Turns.{no_disc, add_at}
use Rattle.storing.proofs.Steps.{add-lost}
use Rattle.composing.specs.declared.Layout.{Layout}
use Rattle.composing.specs.Composes.{handed, numbers_of, stored_of, pointer_of, pointers_of, appended_of, composed_in, Plan, Fits}
use Rattle.composing.proofs.Handed.{some_or_none, where-some, where-none, pointer-some, pointer_none, pointers-some, pointers-none}
use Rattle.composing.proofs.Laid.{start_is, end_is, image-fits}

-- ---- a disc that holds no sector
same-all : (img : List ℕ) (t : Opened) → ((d : List ℕ) → on_disc img t d ≡ none) → (block : ℕ) (ds st : List (List ℕ)) → store_all img t block st ds ≡ store_all [] no_disc block st ds
unfolding store_all
same-all img t lost block [] st = refl
same-all img t lost block (d ∷ ds) st =
    ap (λ (s : Step). record { items = (store_all img t block s.stored ds).items; pointers = s.pointer ∷ (store_all img t block s.stored ds).pointers }) (add-lost block st d img t (lost d))
    ∙ ap (λ (r : Stored). record { items = r.items; pointers = (add_at block st d).pointer ∷ r.pointers }) (same-all img t lost block ds (add_at block st d).stored)

-- ---- what stands beside a number
or-none : {A : Type 0} (u : Option A) → or_else u none ≡ u
unfolding or_else
or-none none = refl
or-none (some x) = refl

-- one more behind them
or-more : {A : Type 0} (q : Bool) (z : A) (u v w : Option A) → u ≡ or_else v w → choose q (some z) u ≡ or_else (choose q (some z) v) w
unfolding choose or_else
or-more true z u v w e = refl
or-more false z u v w e = e

given-more : {A : Type 0} (l : List ℕ) (ys : List A) (b : ℕ) (y : A) (a : ℕ) → length l ≡ length ys
    → given (l ++ (b ∷ [])) (ys ++ (y ∷ [])) a ≡ or_else (given l ys a) (choose (same b a) (some y) none)
unfolding given or_else
given-more [] [] b y a h = refl
given-more [] (z ∷ ys) b y a h = absurd (omega arith)
given-more (c ∷ l) [] b y a h = absurd (omega arith)
given-more (c ∷ l) (z ∷ ys) b y a h = or-more (same c a) z _ _ _ (given-more l ys b y a (omega arith))

module _ (block : ℕ) (f : ℕ → List ℕ) where
  abbrev items : ℕ → List (List ℕ)
  items k = (stored_of block f k).items

  abbrev pointers : ℕ → List Pointer
  pointers k = (stored_of block f k).pointers

  numbers-some : (k : ℕ) → length (f k) ≢ 0 → numbers_of f (suc k) ≡ numbers_of f k ++ (k ∷ [])
  unfolding numbers_of
  numbers-some k h = ap (λ (l : List ℕ). numbers_of f k ++ l) (where-some (f k) k h)

  numbers-none : (k : ℕ) → length (f k) ≡ 0 → numbers_of f (suc k) ≡ numbers_of f k
  unfolding numbers_of
  numbers-none k h = ap (λ (l : List ℕ). numbers_of f k ++ l) (where-none (f k) k h) ∙ append-nil (numbers_of f k)

  numbers-below : (k : ℕ) → All (λ (n : ℕ). n < k) (numbers_of f k)
  unfolding numbers_of
  numbers-below zero = done
  numbers-below (suc k) =
      let rest : All (λ (n : ℕ). n < suc k) (numbers_of f k) = all_map (λ n l. omega arith) (numbers-below k) in
      ⊎_elim (λ s. rw (numbers-some k s) (all_append rest (more (le_refl _) done))) (λ z. rw (numbers-none k z) rest) (some_or_none (f k))

  numbers-length : (k : ℕ) → length (numbers_of f k) ≡ length (pointers k)
  unfolding numbers_of handed store_all
  numbers-length zero = refl
  numbers-length (suc k) =
      let ih = numbers-length k in
      ⊎_elim
      (λ s. rw (numbers-some k s, pointers-some block f k s) (simp length-append (omega arith)))
      (λ z. rw (numbers-none k z, pointers-none block f k z) ih) (some_or_none (f k))

  -- the number of an entry is beside its pointer, and that of an entry without a sector is not there
  other : (k : ℕ) → given (numbers_of f k) (pointers k) k ≡ none
  other k = given-other k (numbers_of f k) (pointers k) (all_map (λ n l e. absurd (omega arith)) (numbers-below k))

  given_is : (k n : ℕ) → n < k → given (numbers_of f k) (pointers k) n ≡ pointer_of block (items n) (f n)
  unfolding or_else
  given_is zero n l = absurd (omega arith)
  given_is (suc k) n l =
      ⊎_elim
      (λ s.
      rw (numbers-some k s, pointers-some block f k s)
      (given-more (numbers_of f k) (pointers k) k (add_at block (items k) (f k)).pointer n (numbers-length k)
      ∙ ⊎_elim
      (λ e.
      let i : n ≡ k = omega arith in
      rw i (rw (other k) (choose-true _ _ _ (same_true k k refl) ∙ sym (pointer-some block (items k) (f k) s))))
      (λ b.
      ap (or_else (given (numbers_of f k) (pointers k) n)) (choose-false _ _ _ (same-iff.1 (λ (e : k ≡ n). absurd (omega arith)))) ∙ or-none _ ∙ given_is k n (omega arith))
      (eq-or-lt_of_le l)))
      (λ z.
      rw (numbers-none k z, pointers-none block f k z)
      (⊎_elim (λ e. let i : n ≡ k = omega arith in rw i (other k ∙ sym (pointer_none block (items k) (f k) z))) (λ b. given_is k n (omega arith)) (eq-or-lt_of_le l)))
      (some_or_none (f k))

-- ---- the pointers of the new table
new-more : (img : List ℕ) (t : Opened) (l : List ℕ) (ps : List Pointer) (k a : ℕ)
    → new_pointers img t l ps (suc k) a ≡ new_pointers img t l ps k a ++ (new_pointer img t l ps (a + k) ∷ [])
unfolding new_pointers
new-more img t l ps zero a = rw (add-zero a) refl
new-more img t l ps (suc k) a =
    let e : suc a + k ≡ a + suc k = omega arith in
    ap (λ (us : List (Option Pointer)). new_pointer img t l ps a ∷ us) (new-more img t l ps k (suc a) ∙ ap (λ n. new_pointers img t l ps k (suc a) ++ (new_pointer img t l ps n ∷ [])) e)

new-pointers : (block : ℕ) (f : ℕ → List ℕ) (img : List ℕ) (t : Opened) (count : ℕ) → ((a : ℕ) → a < count → old_pointer img t a ≡ none)
    → (k : ℕ) → k ≤ count → new_pointers img t (numbers_of f count) (stored_of block f count).pointers k 0 ≡ pointers_of block f k
unfolding new_pointers new_pointer pointers_of
new-pointers block f img t count old zero l = refl
new-pointers block f img t count old (suc k) l =
    let N : List ℕ = numbers_of f count in
    let P : List Pointer = (stored_of block f count).pointers in
    let here : new_pointer img t N P (0 + k) ≡ pointer_of block (stored_of block f k).items (f k) =
    ap (new_pointer img t N P) (zero-add k) ∙ (λ j. or_else (given_is block f count k l j) (old k l j)) ∙ or-none _ in
    new-more img t N P k 0 ∙ (λ j. new-pointers block f img t count old k (omega arith) j ++ (here j ∷ []))

-- ---- what is handed in for the entries of f, as a commit takes it
pub record Hands (f : ℕ → List ℕ) (count : ℕ) (numbers : List ℕ) (size : ℕ) (sectors : List ℕ) : Type 0 where
  pub numbers-are : numbers ≡ numbers_of f count
  pub sectors-are : pieces (length numbers) size sectors ≡ handed f count

module _ (count : ℕ) (application : List ℕ) (major minor mediaType creationTime lastWrittenTime : ℕ) (fit : length application ≡ application_length) (most : count ≤ most_sectors) where
  abbrev used : ℕ
  used = created_used count

  abbrev o : ℕ
  o = created_index_at count

  abbrev new : List ℕ
  new = made count application major minor mediaType creationTime lastWrittenTime

  offset-is : index_offset new ≡ o
  offset-is = made-offset count application major minor mediaType creationTime lastWrittenTime fit most

  sound : Sound new o
  sound = made-sound count application major minor mediaType creationTime lastWrittenTime fit most

  long : length new ≡ used
  long = length-new count application major minor mediaType creationTime lastWrittenTime fit

  lost : (d : List ℕ) → on_disc new (opened new o) d ≡ none
  lost d = go (on_disc new (opened new o) d) refl
    where
      go : (u : Option ℕ) → on_disc new (opened new o) d ≡ u → u ≡ none
      go none e = refl
      go (some n) e =
          absurd (made-empty count application major minor mediaType creationTime lastWrittenTime fit most d (disc-some new (rw offset-is sound) d n (rw offset-is e)))

  module _ {f : ℕ → List ℕ} {numbers : List ℕ} {size : ℕ} {sectors : List ℕ} (d : Hands f count numbers size sectors) where
    stored_is : stored_for new o numbers size sectors ≡ stored_of used f count
    unfolding stored_for
    stored_is = same-all new (opened new o) lost (length new) (pieces (length numbers) size sectors) [] ∙ (λ j. store_all [] no_disc (long j) [] (d.sectors-are j))

    pointers-are : pointers_for new o numbers (stored_of used f count).pointers ≡ pointers_of used f count
    unfolding pointers_for
    pointers-are =
        let ps : List Pointer = (stored_of used f count).pointers in
        let many : (opened new o).count ≡ count = ap (λ (t : Opened). t.count) (made-opened count application major minor mediaType creationTime lastWrittenTime fit most) in
        (λ j. new_pointers new (opened new o) (d.numbers-are j) ps (many j) 0)
        ∙ new-pointers used f new (opened new o) count (made-unwritten count application major minor mediaType creationTime lastWrittenTime fit most) count (le_refl count)

    pub added_is : appended new o numbers size sectors ≡ appended_of f size count
    unfolding appended
    added_is =
        ap (λ (st : Stored). appended_for (length new) size (entries new o) st.items (pointers_for new o numbers st.pointers)) stored_is
        ∙ (λ j. appended_for (long j) size (made-entries count application major minor mediaType creationTime lastWrittenTime fit most j) (stored_of used f count).items (pointers-are j))

-- ---- the two calls, as they are planned
module _ (buffer : List ℕ) (count : ℕ) (numbers : List ℕ) (size : ℕ) (sectors application : List ℕ) (major minor mediaType creationTime lastWrittenTime : ℕ)
    (k : Composable buffer count numbers size sectors application) {f : ℕ → List ℕ} (d : Hands f count numbers size sectors) {stored : ℕ} {at : Layout} (p : Plan f count size stored at) where
  abbrev image : List ℕ
  image = made count application major minor mediaType creationTime lastWrittenTime

  added : appended image (created_index_at count) numbers size sectors ≡ appended_of f size count
  added = added_is count application major minor mediaType creationTime lastWrittenTime k.sized k.most d

  used-is : composed_used buffer count numbers size sectors application major minor mediaType creationTime lastWrittenTime ≡ at.end
  used-is = ap (used_after (created_used count)) added ∙ end_is p

  index_is : composed_index buffer count numbers size sectors application major minor mediaType creationTime lastWrittenTime ≡ at.index.0
  index_is = ap (index_start (created_used count)) added ∙ start_is p

  -- there is no room
  pub composed-full : length buffer < at.end
      → answered (Err (refusal 35 0)) buffer ≡ composed buffer count numbers size sectors application major minor mediaType creationTime lastWrittenTime
  composed-full h =
      outcome-stops buffer _ _ (stop-last (below_true _ _ (omega (arith, used-is))))
      ∙ sym (composed-is buffer count numbers size sectors application major minor mediaType creationTime lastWrittenTime k)

  -- there is, and the new image stands in front
  module _ (h : at.end ≤ length buffer) {b₁ : List ℕ} (e₁ : b₁ ≡ overwrite buffer 0 image) where
    front : take (created_used count) b₁ ≡ image
    front = ap (take (created_used count)) e₁ ∙ image-is _ _ _ _ _ _ _ _ _ _ _ k (image-fits p h)

    pub composed-fits : Fits b₁ f count size stored at
    composed-fits =
        let l : length b₁ ≡ length buffer = ap length e₁ ∙ length-overwrite buffer 0 image in
        let s = made-sound count application major minor mediaType creationTime lastWrittenTime k.sized k.most in
        record {
          plan = p;
          short = omega (arith, k.long);
          room = omega arith;
          indexed = rw front (omega (arith, length-new count application major minor mediaType creationTime lastWrittenTime k.sized, s.opens.index.fits));
          named = rw front (made-entries count application major minor mediaType creationTime lastWrittenTime k.sized k.most);
        }

    pub composed-done : {b₂ : List ℕ} → b₂ ≡ composed_in b₁ f size count lastWrittenTime
        → answered (Ok (placed at.end at.index.0)) b₂ ≡ composed buffer count numbers size sectors application major minor mediaType creationTime lastWrittenTime
    composed-done e₂ =
        outcome-done buffer (on-last _ (below-iff.1 (omega (arith, used-is)))) (sym (λ j. placed (used-is j) (index_is j)))
        (e₂ ∙ (λ j. set_header (overwrite (e₁ j) (created_used count) (appended_bytes (sym added j))) (index_start (created_used count) (sym added j)) lastWrittenTime))
        ∙ sym (composed-is buffer count numbers size sectors application major minor mediaType creationTime lastWrittenTime k)
