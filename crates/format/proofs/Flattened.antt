-- The disc that a flattening leaves reads as the pair did; and the first refusal of a sector is the flattening's own.
use mathlib.Core.Bool.{true}
use mathlib.Core.List.{List, [], ◌∷◌, map}
use mathlib.Core.Logic.{◌≢◌, ⊎_elim}
use mathlib.Core.Path.{◌≡◌, refl, sym, ap, ◌∙◌, subst}
use Prim.Native.Nat.{ℕ, zero, suc, ◌+◌, ◌*◌, ◌≤◌, ◌<◌}
use native.Mathlib.Nat.{pos_of_ne-zero, eq-or-lt_of_le}
use native.Mathlib.Omega.{arith}
use lib.ListN.{length, take, get_or, length-map}
use lib.IntN.{ℤ, pos, neg_ℤ, nat_abs, +ℤ_idl}
use Rattle.std.specs.Prelude.{Ok, Err}
use Rattle.fields.specs.Bytes.{part, overwrite}
use Rattle.format.specs.declared.Placed.{Placed}
use Rattle.format.specs.declared.Refusal.{Refusal}
use Rattle.format.specs.declared.TableKind.TheVariants.{First}
use Rattle.format.specs.Lists.{All, done, more, IsBytes}
use Rattle.format.specs.Refusals.{refusal, Answer}
use Rattle.format.specs.Layouts.{index_offset, table_count}
use Rattle.format.specs.Opening.{Opened, opened_as, opened, range_of, sector_count}
use Rattle.format.specs.Reading.{outside, entry_number, read_at, read}
use Rattle.format.specs.Writing.{Outcome, placed}
use Rattle.format.specs.Creating.{created_used}
use Rattle.format.specs.Committing.{other_than_21}
use Rattle.format.specs.Overlaying.{over, disc_over, read_over}
use Rattle.format.specs.Flattening.{count_of, pair_at, Written, with_sector, written_from, written_of, size_of, sectors_of, verdict_of, pair_verdict, flatten_verdict, flatten}
use Rattle.format.specs.Histories.{ReadTheSame}
use Rattle.format.specs.Demands.{Missing, FreshDisc, ReadsCommitted, new_image, PairHas, finished, gap, sector, FlattenOk, RefusedOver, by_child, by_neither, by_parent, FlattenReads, FlattenRefused}
use Rattle.format.specs.Facts.{Stores, all}
use Rattle.format.proofs.Tests.{on-or-off, never, same_true, same-iff, choose-true, choose-false}
use Rattle.format.proofs.Lists.{Sized, get_d_map, all-mapped, all_head, all_tail}
use Rattle.format.proofs.Refusals.{then-rest, then-refuses, first_refusal-at, answer-passes}
use Rattle.format.proofs.Numbers.{inside-flat, inside-number, number-inside}
use Rattle.format.proofs.Checks.{open-ok, only-21, writable-ok, first_flat, created-index, created-used}
use Rattle.format.proofs.Opens.{opened-as, writable-with}
use Rattle.format.proofs.Buffers.{outcome-accepts, outcome-refuses}
use Rattle.format.proofs.Reading.{outside-refused}
use Rattle.format.proofs.Storing.{get_or-pieces}
use Rattle.format.proofs.Overlaying.{over-other}
use Rattle.format.proofs.Overlaid.{over-refused}
use Rattle.format.proofs.Composing.{numbered, made, made-front, made-fresh, Composable, composed-past, committed}
use Rattle.format.proofs.Composed.{Storable, composed-stores, composed-ends}
use Rattle.format.proofs.Flattening.{sector_list, number_list, Flattenable, composable, pieces_are, lent_ok, flat_end, flat_buffer, flatten-is, verdict-ok, flatten-accepted}

-- ---- an address and its sector among those of the pair
pub record Found (ws : List Written) (n : ℕ) (d : List ℕ) : Type 0 where
  pub at : ℕ
  pub inside : at < length ws
  pub number : get_or (number_list ws) at 0 ≡ n
  pub sector : get_or (sector_list ws) at [] ≡ d

found-later : {w : Written} {ws : List Written} {n : ℕ} {d : List ℕ} → Found ws n d → Found (w ∷ ws) n d
found-later f = record { at = suc f.at; inside = omega (arith, f.inside); number = f.number; sector = f.sector }

found-with : (m : ℕ) (x : Answer (List ℕ)) (ws : List Written) (n : ℕ) (d : List ℕ) → Found ws n d → Found (with_sector m x ws) n d
unfolding with_sector
found-with m (Ok c) ws n d f = found-later f
found-with m (Err r) ws n d f = f

found_here : (n : ℕ) (x : Answer (List ℕ)) (ws : List Written) (d : List ℕ) → x ≡ Ok d → Found (with_sector n x ws) n d
unfolding with_sector
found_here n (Ok c) ws d e = record { at = 0; inside = omega arith; number = refl; sector = cc }
found_here n (Err r) ws d e = let z : ◌≡◌ {A = ℕ} 0 1 = cc in absurd (omega arith)

-- an address that is refused is none of them
others-with : (m : ℕ) (x : Answer (List ℕ)) (ws : List Written) (n : ℕ) → (m ≡ n → (d : List ℕ) → x ≢ Ok d) → All (λ (i : ℕ). i ≢ n) (number_list ws)
    → All (λ (i : ℕ). i ≢ n) (number_list (with_sector m x ws))
unfolding with_sector
others-with m (Ok d) ws n f h = more (λ e. f e d refl) h
others-with m (Err r) ws n f h = h

module _ (disc : ℕ → Answer (List ℕ)) where
  found : (k i n : ℕ) (d : List ℕ) → i ≤ n → n < i + k → disc n ≡ Ok d → Found (written_from disc k i) n d
  unfolding written_from
  found zero i n d l h e = absurd (omega arith)
  found (suc k) i n d l h e =
      ⊎_elim (λ q. subst (λ m. Found (with_sector i (disc i) (written_from disc k (suc i))) m d) q (found_here i (disc i) _ d (ap disc q ∙ e)))
      (λ m. found-with i (disc i) _ n d (found k (suc i) n d m (omega arith) e)) (eq-or-lt_of_le l)

  others : (k i n : ℕ) → ((d : List ℕ) → disc n ≢ Ok d) → All (λ (m : ℕ). m ≢ n) (number_list (written_from disc k i))
  unfolding written_from
  others zero i n h = done
  others (suc k) i n h = others-with i (disc i) _ n (λ e d q. h d (ap disc (sym e) ∙ q)) (others k (suc i) n h)

-- ---- the pair's answers, where they pass
not-accepted : {A : Type 0} {a : A} {r : Refusal} → Err r ≢ Ok a
not-accepted e = let z : ◌≡◌ {A = ℕ} 0 1 = cc in absurd (omega arith)

-- 21 has no place
refused-as-21 : (child parent : List ℕ) (a : ℤ) (r : Refusal) → RefusedOver child parent a r → r.number ≡ 21 → r ≡ refusal 21 0
refused-as-21 child parent a r (by_child e n) z = absurd (n z)
refused-as-21 child parent a _ (by_neither m k) z = refl
refused-as-21 child parent a _ (by_parent m e c d) z = absurd (omega arith)

other-kept : (r : Refusal) → r.number ≢ 21 → other_than_21 (Err r) ≡ Err r
unfolding other_than_21
other-kept r n = choose-false _ _ _ (same-iff.1 n)

passes-21 : (x : Answer (List ℕ)) → ((r : Refusal) → x ≡ Err r → r.number ≡ 21) → other_than_21 (verdict_of x) ≡ Ok tt
unfolding other_than_21 verdict_of
passes-21 (Ok d) h = refl
passes-21 (Err r) h = choose-true _ _ _ (same_true _ _ (h r refl))

pair-21 : (child parent : List ℕ) (n : ℕ) (r : Refusal) → other_than_21 (verdict_of (pair_at child parent n)) ≡ Ok tt → pair_at child parent n ≡ Err r → Missing (pair_at child parent n)
unfolding pair_at verdict_of
pair-21 child parent n r k e =
    e ∙ ap Err (refused-as-21 child parent (pos n) r ((over-refused child parent (pos n) r).0 e) (only-21 r (subst (λ (x : Answer (List ℕ)). other_than_21 (verdict_of x) ≡ Ok tt) e k)))

-- ---- the pair has a sector at each address or none: by its answers
module _ (child parent : List ℕ) (size : ℕ) where
  abbrev Passing : ℕ → ℕ → Type 0
  Passing k n = (m : ℕ) → n ≤ m → m < n + k → other_than_21 (verdict_of (pair_at child parent m)) ≡ Ok tt

  abbrev from : ℕ → ℕ → List Written
  from k n = written_from (pair_at child parent) k n

  has-with : (k n : ℕ) (x : Answer (List ℕ)) → pair_at child parent n ≡ x → other_than_21 (verdict_of (pair_at child parent n)) ≡ Ok tt
      → (All (Sized size) (sector_list (from k (suc n))) → PairHas child parent size k (suc n) (sector_list (from k (suc n))))
      → All (Sized size) (sector_list (with_sector n x (from k (suc n)))) → PairHas child parent size (suc k) n (sector_list (with_sector n x (from k (suc n))))
  unfolding with_sector pair_at
  has-with k n (Ok d) e p rest h = sector e (all_head h) (rest (all_tail h))
  has-with k n (Err r) e p rest h = gap (pair-21 child parent n r p e) (rest h)

  has-forth : (k n : ℕ) → Passing k n → All (Sized size) (sector_list (from k n)) → PairHas child parent size k n (sector_list (from k n))
  unfolding written_from
  has-forth zero n p h = finished
  has-forth (suc k) n p h = has-with k n (pair_at child parent n) refl (p n (omega arith) (omega arith)) (has-forth k (suc n) (λ m l q. p m (omega arith) (omega arith))) h

  has-sectors : (k n : ℕ) (ds : List (List ℕ)) → PairHas child parent size k n ds → sector_list (from k n) ≡ ds
  unfolding written_from with_sector pair_at
  has-sectors _ n _ finished = refl
  has-sectors _ n _ (gap {k = k} {ds = ds} m h) = ap (λ (x : Answer (List ℕ)). sector_list (with_sector n x (from k (suc n)))) m ∙ has-sectors k (suc n) ds h
  has-sectors _ n _ (sector {k = k} {d = d} {ds = ds} e l h) =
      ap (λ (x : Answer (List ℕ)). sector_list (with_sector n x (from k (suc n)))) e ∙ ap (λ (r : List (List ℕ)). d ∷ r) (has-sectors k (suc n) ds h)

  has-sized : (k n : ℕ) (ds : List (List ℕ)) → PairHas child parent size k n ds → All (Sized size) ds
  has-sized _ n _ finished = done
  has-sized _ n _ (gap {k = k} {ds = ds} m h) = has-sized k (suc n) ds h
  has-sized _ n _ (sector {k = k} {ds = ds} e l h) = more l (has-sized k (suc n) ds h)

  has-passes : (k n : ℕ) (ds : List (List ℕ)) → PairHas child parent size k n ds → Passing k n
  unfolding verdict_of other_than_21 pair_at
  has-passes _ n _ finished m l q = absurd (omega arith)
  has-passes _ n _ (gap {k = k} {ds = ds} e h) m l q =
      ⊎_elim (λ i. subst (λ j. other_than_21 (verdict_of (pair_at child parent j)) ≡ Ok tt) i (ap (λ (x : Answer (List ℕ)). other_than_21 (verdict_of x)) e ∙ choose-true _ _ _ (same_true 21 21 refl)))
      (λ i. has-passes k (suc n) ds h m i (omega arith)) (eq-or-lt_of_le l)
  has-passes _ n _ (sector {k = k} {ds = ds} e s h) m l q =
      ⊎_elim (λ i. subst (λ j. other_than_21 (verdict_of (pair_at child parent j)) ≡ Ok tt) i (ap (λ (x : Answer (List ℕ)). other_than_21 (verdict_of x)) e))
      (λ i. has-passes k (suc n) ds h m i (omega arith)) (eq-or-lt_of_le l)

-- ---- the disc that is left
module _ (buffer child parent application : List ℕ) (major minor mediaType creationTime lastWrittenTime : ℕ) (k : Flattenable buffer child parent application) where
  abbrev t : Opened
  t = opened child (index_offset child)

  lowest : t.negative ≡ 0
  lowest = (first_flat child (index_offset child) k.writable.first).0

  apart : (a : ℤ) → outside t a ≡ true → (n : ℕ) → n < count_of child → a ≢ pos n
  apart a h n l e = never h (ap (outside t) e ∙ number-inside t (pos n) n (numbered t lowest n l))

  -- what is outside the child's table is refused with 20
  pair-20 : (a : ℤ) → outside t a ≡ true → read_over child parent a ≡ Err (refusal 20 0)
  unfolding read_over disc_over sector_count range_of
  pair-20 a h =
      let s : sector_count child ≡ Ok (record { count = count_of child; lowest = record { 0 = pos 0 } }) =
      answer-passes _ _ ((open-ok child (index_offset child)).1 k.writable.opens) ∙ (λ i. Ok (record { count = count_of child; lowest = record { 0 = neg_ℤ (pos (lowest i)) } })) in
      ap (λ (x : Answer (List ℕ)). over x (read parent a)) (outside-refused child _ s a (λ n l e. apart a h n l (e ∙ +ℤ_idl (pos n))))
      ∙ over-other (refusal 20 0) (read parent a) (λ e. absurd (omega arith))

  -- a disc that reads as a new one but for the pair's sectors reads as the pair
  abbrev Holding : (ℤ → Answer (List ℕ)) → List Written → Type 0
  Holding disc ws =
      ((n : ℕ) (d : List ℕ) → Found ws n d → disc (pos n) ≡ Ok d)
      × ((n : ℕ) → n < count_of child → All (λ (m : ℕ). m ≢ n) (number_list ws) → disc (pos n) ≡ Err (refusal 21 0))
      × ((a : ℤ) → outside t a ≡ true → disc a ≡ Err (refusal 20 0))

  as-pair : (disc : ℤ → Answer (List ℕ)) → Holding disc (written_of child parent) → (a : ℤ) → disc a ≡ read_over child parent a
  unfolding written_of pair_at
  as-pair disc (has, lacks, past) a =
      ⊎_elim (λ h. past a h ∙ sym (pair-20 a h))
      (λ h. subst (λ (b : ℤ). disc b ≡ read_over child parent b) (sym (inside-flat t lowest a h)) (at (entry_number t a) (inside-number t a h).inside _ refl))
      (on-or-off (outside t a))
    where
      at : (n : ℕ) → n < count_of child → (x : Answer (List ℕ)) → pair_at child parent n ≡ x → disc (pos n) ≡ read_over child parent (pos n)
      at n l (Ok d) e = has n d (found (pair_at child parent) (count_of child) 0 n d (omega arith) (omega arith) e) ∙ sym e
      at n l (Err r) e =
          lacks n l (others (pair_at child parent) (count_of child) 0 n (λ d q. not-accepted (sym e ∙ q))) ∙ sym (pair-21 child parent n r (k.sectors n l) e)

  abbrev new : List ℕ
  new = made (count_of child) application major minor mediaType creationTime lastWrittenTime

  fresh-disc : FreshDisc new (count_of child)
  fresh-disc = made-fresh (count_of child) application major minor mediaType creationTime lastWrittenTime k.named k.most

  front : created_used (count_of child) ≤ length buffer → take (created_used (count_of child)) (overwrite buffer 0 new) ≡ new
  front = made-front (count_of child) application major minor mediaType creationTime lastWrittenTime k.named k.most buffer

  holding-none : Holding (read new) []
  holding-none = (
    (λ n d f. absurd (omega (arith, f.inside))),
    (λ n l h. fresh-disc.inside n l),
    λ a h. fresh-disc.outside a (apart a h),
  )

  sized-all : (w : Written) (ws : List Written) → written_of child parent ≡ w ∷ ws → All (Sized (size_of (w ∷ ws))) (sector_list (w ∷ ws))
  sized-all w ws is = subst (λ (v : List Written). All (Sized (size_of v)) (sector_list v)) is k.sized

  -- with the pair's sectors committed to it
  module _ (bb : IsBytes buffer) (ba : IsBytes application) (w : Written) (ws : List Written) (is : written_of child parent ≡ w ∷ ws)
      (room : (flat_end buffer child parent application major minor mediaType creationTime lastWrittenTime (w ∷ ws)).used ≤ length buffer) where
    abbrev these : List Written
    these = w ∷ ws

    abbrev size : ℕ
    size = size_of these

    abbrev y : List ℕ
    y = take (flat_end buffer child parent application major minor mediaType creationTime lastWrittenTime these).used (flat_buffer buffer child parent application major minor mediaType creationTime lastWrittenTime these)

    c : Composable buffer (count_of child) (number_list these) size (sectors_of these) application
    c = composable k w ws is

    sized : All (Sized size) (sector_list these)
    sized = sized-all w ws is

    committed-here : ReadsCommitted (read new) (read y) (map pos (number_list these)) size (sectors_of these)
    unfolding flat_end flat_buffer read
    committed-here =
        let m = committed _ _ _ _ _ _ major minor mediaType creationTime lastWrittenTime c bb ba room in
        let e = front (omega (arith, composed-past buffer (count_of child) (number_list these) size (sectors_of these) application major minor mediaType creationTime lastWrittenTime, room)) in
        subst (λ o. ReadsCommitted (read new) (read_at y o) (map pos (number_list these)) size (sectors_of these)) (sym m.offset) (rw e at m.reads)

    piece : (i : ℕ) → i < length these → part (sectors_of these) (i * size) size ≡ get_or (sector_list these) i []
    piece i h =
        sym (get_or-pieces (length (number_list these)) size (sectors_of these) i (omega (arith, length-map these (λ (v : Written). v.address))))
        ∙ ap (λ (l : List (List ℕ)). get_or l i []) (pieces_are size these sized)

    holding-all : Holding (read y) these
    holding-all =
        let r = committed-here in
        let ln : length (number_list these) ≡ length these = length-map these _ in (
          (λ n d f.
              ap (read y) (sym (get_d_map pos (number_list these) f.at 0 (pos 0) (omega (arith, ln, f.inside)) ∙ ap pos f.number))
              ∙ r.named f.at (omega (arith, length-map (number_list these) pos, ln, f.inside)) ∙ ap Ok (piece f.at f.inside ∙ f.sector)),
          (λ n l h. r.others (pos n) (all-mapped pos (λ m d e. d (ap nat_abs e)) h) ∙ fresh-disc.inside n l),
          λ a h. r.others a (all-mapped pos (λ m l e. apart a h m l (sym e)) c.inside) ∙ fresh-disc.outside a (apart a h),
        )

  reads-alike : IsBytes buffer → IsBytes application → (ws : List Written) → written_of child parent ≡ ws
      → (flat_end buffer child parent application major minor mediaType creationTime lastWrittenTime ws).used ≤ length buffer → (a : ℤ)
      → read (take (flat_end buffer child parent application major minor mediaType creationTime lastWrittenTime ws).used (flat_buffer buffer child parent application major minor mediaType creationTime lastWrittenTime ws)) a
      ≡ read_over child parent a
  unfolding flat_end flat_buffer
  reads-alike bb ba [] is room a = rw (front room) (as-pair (read new) (rw is holding-none) a)
  reads-alike bb ba (w ∷ ws) is room a = as-pair (read (y bb ba w ws is room)) (rw is (holding-all bb ba w ws is room)) a

  -- ---- where it ends, by the sectors that are stored
  some-numbers : (w : Written) (ws : List Written) → 0 < length (number_list (w ∷ ws))
  some-numbers w ws = omega (arith, length-map (w ∷ ws) (λ (v : Written). v.address))

  stores-none : (stored : List (List ℕ)) → Stores (λ (d : List ℕ). ⊥) [] [] stored → stored ≡ []
  stores-none _ all = refl

  -- those of a pair
  stored_of : (ws : List Written) → written_of child parent ≡ ws → Storable (sector_list ws)
  stored_of [] is = record { stored = []; stores = all }
  stored_of (w ∷ ws) is =
      subst Storable (pieces_are (size_of (w ∷ ws)) (w ∷ ws) (sized-all w ws is))
      (composed-stores _ _ _ _ _ _ major minor mediaType creationTime lastWrittenTime (composable k w ws is) (some-numbers w ws))

  flat-ends : (ws : List Written) → written_of child parent ≡ ws → (size : ℕ) → All (Sized size) (sector_list ws) → (stored : List (List ℕ)) → Stores (λ (d : List ℕ). ⊥) [] (sector_list ws) stored
      → flat_end buffer child parent application major minor mediaType creationTime lastWrittenTime ws ≡ new_image (count_of child) size stored
  unfolding flat_end new_image size_of
  flat-ends [] is size h stored r =
      (λ i. placed (created-used (count_of child) i) (created-index (count_of child) i)) ∙ ap (new_image (count_of child) size) (sym (stores-none stored r))
  flat-ends (w ∷ ws) is size h stored r =
      composed-ends _ _ _ _ _ _ _ _ _ _ _ (composable k w ws is) (some-numbers w ws) stored (rw (pieces_are (size_of (w ∷ ws)) (w ∷ ws) (sized-all w ws is)) r)
      ∙ ap (λ n. new_image (count_of child) n stored) (all_head h)

pub flatten-reads : FlattenReads
unfolding ReadTheSame
flatten-reads buffer bb child parent application ba major minor mediaType creationTime lastWrittenTime p e a =
    let f = flatten-accepted buffer child parent application major minor mediaType creationTime lastWrittenTime p e in
    rw (f.buffer-is, ← f.answer) (reads-alike buffer child parent application major minor mediaType creationTime lastWrittenTime f.checked bb ba (written_of child parent) refl f.room a)

-- ---- accepted exactly if
sectors-of : (child parent : List ℕ) (size : ℕ) (ds : List (List ℕ)) → PairHas child parent size (count_of child) 0 ds → sector_list (written_of child parent) ≡ ds
unfolding written_of
sectors-of child parent size ds = has-sectors child parent size (count_of child) 0 ds

size-of : (size : ℕ) (ws : List Written) → All (Sized size) (sector_list ws) → All (Sized (size_of ws)) (sector_list ws)
unfolding size_of
size-of size [] h = done
size-of size (w ∷ ws) h = subst (λ n. All (Sized n) (sector_list (w ∷ ws))) (sym (all_head h)) h

size_small : (size most : ℕ) (ws : List Written) → All (Sized size) (sector_list ws) → size ≤ most → size_of ws ≤ most
unfolding size_of
size_small size most [] h l = omega arith
size_small size most (w ∷ ws) h l = omega (arith, all_head h)

module _ (buffer child parent application : List ℕ) (major minor mediaType creationTime lastWrittenTime : ℕ) (p : Placed) where
  pub flatten-forth : (flatten buffer child parent application major minor mediaType creationTime lastWrittenTime).result ≡ Ok p → FlattenOk buffer child parent application p
  unfolding written_of opened_as
  flatten-forth e =
      let f = flatten-accepted buffer child parent application major minor mediaType creationTime lastWrittenTime p e in
      let k = f.checked in
      let ws : List Written = written_of child parent in
      let w = (writable-with child (index_offset child)).0 k.writable in
      let is : count_of child ≡ table_count child First w.table = ap (λ (u : Opened). u.count) (opened-as child (index_offset child) First w.table w.opens) in
      let st = stored_of buffer child parent application major minor mediaType creationTime lastWrittenTime k ws refl in
      record {
        arguments = record { long = k.long; named = k.named };
        table = w.table;
        opens = w.opens;
        counted = rw (← is) (pos_of_ne-zero k.counted, k.most);
        size = size_of ws;
        small = k.small;
        sectors = sector_list ws;
        has = rw (← is) (has-forth child parent (size_of ws) (count_of child) 0 (λ m l h. k.sectors m (omega arith)) k.sized);
        few = omega (arith, length-map ws (λ (v : Written). v.sector), k.few);
        stored = st.stored;
        stores = st.stores;
        end = rw (← is) (sym f.answer ∙ flat-ends buffer child parent application major minor mediaType creationTime lastWrittenTime k ws refl (size_of ws) k.sized st.stored st.stores);
        room = subst (λ (q : Placed). q.used ≤ length buffer) f.answer f.room;
      }

  pub flatten_back : FlattenOk buffer child parent application p → (flatten buffer child parent application major minor mediaType creationTime lastWrittenTime).result ≡ Ok p
  unfolding opened_as
  flatten_back c =
      let ws : List Written = written_of child parent in
      let is : count_of child ≡ table_count child First c.table = ap (λ (u : Opened). u.count) (opened-as child (index_offset child) First c.table c.opens) in
      let h : PairHas child parent c.size (count_of child) 0 c.sectors = rw is c.has in
      let l : sector_list ws ≡ c.sectors = sectors-of child parent c.size c.sectors h in
      let sized : All (Sized c.size) (sector_list ws) = rw l (has-sized child parent c.size (count_of child) 0 c.sectors h) in
      let k : Flattenable buffer child parent application =
      record {
        long = c.arguments.long;
        named = c.arguments.named;
        writable = (writable-with child (index_offset child)).1 (record { table = c.table; opens = c.opens });
        sectors = λ n q. has-passes child parent c.size (count_of child) 0 c.sectors h n (omega arith) (omega arith);
        sized = size-of c.size ws sized;
        counted = λ z. absurd (omega (arith, c.counted.0, is, z));
        most = omega (arith, is, c.counted.1);
        small = size_small c.size _ ws sized c.small;
        few = omega (arith, length-map ws (λ (v : Written). v.sector), ap length l, c.few);
      } in
      let e = flat-ends buffer child parent application major minor mediaType creationTime lastWrittenTime k ws refl c.size sized c.stored (rw l c.stores) ∙ ap (λ n. new_image n c.size c.stored) is ∙ sym c.end in
      ap (λ (w : Outcome Placed). w.result) (flatten-is buffer child parent application major minor mediaType creationTime lastWrittenTime)
      ∙ (outcome-accepts _ _ _ _ p).1
      ((verdict-ok buffer child parent application major minor mediaType creationTime lastWrittenTime).1 (k, rw (ap (λ (x : Placed). x.used) e) c.room), e)

-- ---- the first refusal of a sector
pub flatten-refused-by : FlattenRefused
unfolding opened_as flatten_verdict pair_verdict verdict_of pair_at
flatten-refused-by buffer child parent application major minor mediaType creationTime lastWrittenTime r a f =
    let is : count_of child ≡ table_count child First f.table = ap (λ (u : Opened). u.count) (opened-as child (index_offset child) First f.table f.opens) in
    let w = (writable-ok child (index_offset child)).1 ((writable-with child (index_offset child)).1 (record { table = f.table; opens = f.opens })) in
    let pass : (n : ℕ) → n < f.address → other_than_21 (verdict_of (pair_at child parent n)) ≡ Ok tt = λ n h. passes-21 (pair_at child parent n) (f.before n h) in
    let here : other_than_21 (verdict_of (pair_at child parent f.address)) ≡ Err r =
    ap (λ (x : Answer (List ℕ)). other_than_21 (verdict_of x)) f.here ∙ other-kept r f.other in
    let v : pair_verdict child parent ≡ Err r = first_refusal-at _ (count_of child) 0 f.address r (omega arith) (omega (arith, is, f.inside)) (λ n l h. pass n h) here in
    ap (λ (o : Outcome Placed). o.result) (flatten-is buffer child parent application major minor mediaType creationTime lastWrittenTime)
    ∙ (outcome-refuses _ _ _ _ r).1
    (then-refuses _ _ r
    (then-rest _ _ ((lent_ok buffer application).1 a) ∙ then-rest _ _ w ∙ then-refuses _ _ r v))
