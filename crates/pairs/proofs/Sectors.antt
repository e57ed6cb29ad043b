-- A pair of images whose sectors were all checked: what it has at an address, by what each of the two has there.
use mathlib.Core.Bool.{Bool, true, false}
use mathlib.Core.List.{List, []}
use mathlib.Core.Logic.{◌≢◌, ⊎_elim}
use mathlib.Core.Path.{◌≡◌, refl, sym, ap, ◌∙◌, subst}
use Prim.Native.Nat.{ℕ, ◌+◌, ◌≤◌, ◌<◌}
use native.Mathlib.Nat.{zero-add}
use native.Mathlib.Omega.{arith}
use lib.ListN.{length}
use lib.IntN.{ℤ, pos, neg_ℤ, ◌+ℤ◌}
use Rattle.std.specs.Prelude.{Ok, Err}
use Rattle.fields.specs.Bytes.{part}
use Rattle.format.specs.declared.Place.{Place}
use Rattle.format.specs.declared.Pointer.{Pointer}
use Rattle.format.specs.declared.Refusal.{Refusal}
use Rattle.format.specs.declared.TableKind.TheVariants.{First}
use Rattle.format.specs.Tests.{same}
use Rattle.format.specs.Refusals.{refusal, Answer, answer, Verdict}
use Rattle.format.specs.Layouts.{index_offset, entries}
use Rattle.format.specs.Opening.{Opened, opening}
use Rattle.format.specs.Reading.{outside, entry_number, not_written, pointer_at, place_of, item_bytes, sector_verdict, read_verdict, read_at, read}
use Rattle.format.specs.Answers.{bytes_read}
use Rattle.format.specs.Committing.{other_than_21}
use Rattle.format.specs.Overlaying.{parent_refusal, from_parent, over, disc_over, read_over}
use Rattle.format.specs.Flattening.{count_of, pair_at, verdict_of, pair_verdict}
use Rattle.format.proofs.Tests.{on-or-off, off_rest, same-iff, choose-true}
use Rattle.format.proofs.Refusals.{Gives, says-not, says-also, then-refuses, first_refusal-iff, answer-passes, answer-refuses, answer-refused}
use Rattle.format.proofs.Lists.{empty}
use Rattle.format.proofs.Flattening.{verdict-of}
use Rattle.format.proofs.Checks.{PointerOk, SectorOk, only-21, sector-ok, sector-21, item-inside, sector-numbers, address-ok, entry_read, read-20, read-inside, first_flat}
use Rattle.format.proofs.Numbers.{address-displaced, numbered-at}
use Rattle.format.proofs.Overlaying.{parent-other, over-child, over-other, over-parent}
use Rattle.format.proofs.Overlaid.{over-some}
use Rattle.opening.proofs.Accepted.{opens, opened-is}
use Rattle.opening.specs.Images.{held}
use Rattle.pairs.specs.declared.pair.Pair.{Pair}
use Rattle.pairs.specs.Pairs.{entry_answer, EntryChecked, sector_at}
use Rattle.pairs.specs.Sectors.{sector_of}

-- ---- the sector of a table entry that was checked, as the code finds it
module _ (img : List ℕ) (t : Opened) (n : ℕ) (k : EntryChecked img t n) {b : Bool} (w : b ≡ not_written img t n) where
  pub entry-none : b ≡ true → [] ≡ bytes_read (entry_answer img t n)
  unfolding entry_answer bytes_read
  entry-none y = sym (ap bytes_read (answer-refuses _ _ _ (sector-21 img (entries img (index_offset img)) t n (sym w ∙ y))))

  module _ (y : b ≡ false) {p : Pointer} (e : p ≡ pointer_at img t n) where
    good : SectorOk img (entries img (index_offset img)) t n
    good = off_rest (sym w ∙ y) ((address-ok img (entries img (index_offset img)) t n).0 k.passes)

    pub entry-item : PointerOk img p
    entry-item = rw e good.item

    module _ {q : Place} (f : q ≡ place_of img p) where
      pub entry-inside : q.start.0 + q.size ≤ length img
      unfolding place_of
      entry-inside = rw f (omega (arith, item-inside img _ _ entry-item, entry-item.block.fits))

      pub entry-bytes : part img q.start.0 q.size ≡ bytes_read (entry_answer img t n)
      unfolding entry_answer bytes_read item_bytes
      entry-bytes =
          ap (λ (x : Place). part img x.start.0 x.size) f ∙ ap (item_bytes img) e
          ∙ sym (ap bytes_read (answer-passes _ _ ((sector-ok img (entries img (index_offset img)) t n).1 good)))

-- ---- what reading an address answers, by its table entry
module _ (img : List ℕ) (t : Opened) (e : opening img ≡ Ok t) (a : ℤ) where
  read-entry : (n : ℕ) → outside t a ≡ false → entry_number t a ≡ n → read img a ≡ entry_answer img t n
  unfolding read entry_read entry_answer
  read-entry n h m =
      read-inside img (index_offset img) (opens img t e) a (rw (opened-is img t e) h)
      ∙ ap (λ (u : Opened). entry_answer img u (entry_number u a)) (opened-is img t e) ∙ ap (entry_answer img t) m

  read-outside : outside t a ≡ true → read img a ≡ Err (refusal 20 0)
  unfolding read
  read-outside h = read-20 img (index_offset img) (opens img t e) a (rw (opened-is img t e) h)

read-unopened : (img : List ℕ) (r : Refusal) → opening img ≡ Err r → (a : ℤ) → read img a ≡ Err r
unfolding read read_at read_verdict opening
read-unopened img r e a = answer-refuses _ _ r (then-refuses _ _ r (answer-refused _ _ r e))

-- ---- which answers pass: all but refusals with another number than 21
abbrev Passing : Answer (List ℕ) → Type 0
Passing x = other_than_21 (verdict_of x) ≡ Ok tt

-- the child's, where the pair's does
child-passes : (x y : Answer (List ℕ)) → Passing (over x y) → Passing x
unfolding verdict_of other_than_21
child-passes (Ok d) y e = refl
child-passes (Err r) y e =
    ⊎_elim (choose-true _ (Ok tt) (Err r)) (λ f. subst Passing (over-other r y (same-iff.0 f)) e)
    (on-or-off (same r.number 21))

-- the parent's at a table entry, whose numbers are not 20
sector-not-20 : (img : List ℕ) (t : Opened) (n : ℕ) → ¬ Gives 20 (sector_verdict img (entries img (index_offset img)) t n)
sector-not-20 img t n = says-not 20 _ (says-also _ (λ m p s e. omega (arith, s, e)) (sector-numbers img (entries img (index_offset img)) t n))

parent-passes : (v : Verdict) (d : List ℕ) → ¬ Gives 20 v → Passing (from_parent (answer v d)) → other_than_21 v ≡ Ok tt
unfolding verdict_of other_than_21 from_parent answer Gives
parent-passes (Ok tt) d m e = refl
parent-passes (Err r) d m e =
    ⊎_elim (choose-true _ (Ok tt) (Err r))
    (λ f. let n : (100 + r.number) ≡ 21 = sym (ap (λ (q : Refusal). q.number) (parent-other r m (same-iff.0 f))) ∙ only-21 (parent_refusal r) e in
    absurd (omega arith))
    (on-or-off (same r.number 21))

-- ---- the parent's sector, as the code finds it
from_bytes : (x : Answer (List ℕ)) → bytes_read (from_parent x) ≡ bytes_read x
unfolding bytes_read from_parent
from_bytes (Ok d) = refl
from_bytes (Err r) = refl

module _ (parent : List ℕ) (a : ℤ) where
  pub parent-unopened : (r : Refusal) → opening parent ≡ Err r → [] ≡ bytes_read (from_parent (read parent a))
  unfolding bytes_read
  parent-unopened r e = sym (from_bytes (read parent a) ∙ ap bytes_read (read-unopened parent r e a))

  module _ (t : Opened) (e : opening parent ≡ Ok t) where
    pub parent-outside : outside t a ≡ true → [] ≡ bytes_read (from_parent (read parent a))
    unfolding bytes_read
    parent-outside h = sym (from_bytes (read parent a) ∙ ap bytes_read (read-outside parent t e a h))

    module _ (n : ℕ) (m : (outside t a ≡ false) × (entry_number t a ≡ n) × (n < t.count)) where
      is : read parent a ≡ entry_answer parent t n
      is = read-entry parent t e a n m.0 m.1

      -- the bytes that opened are the parent's
      module _ {img : List ℕ} (l : img ≡ parent) where
        pub parent-entry : Passing (from_parent (read parent a)) → EntryChecked img t n
        unfolding entry_answer
        parent-entry k =
            subst (λ (s : List ℕ). EntryChecked s t n) (sym l) record {
              inside = m.2;
              passes = parent-passes _ _ (sector-not-20 parent t n) (subst (λ (x : Answer (List ℕ)). Passing (from_parent x)) is k);
            }

        pub parent-bytes : bytes_read (entry_answer img t n) ≡ bytes_read (from_parent (read parent a))
        parent-bytes = ap (λ (s : List ℕ). bytes_read (entry_answer s t n)) l ∙ sym (from_bytes (read parent a) ∙ ap bytes_read is)

-- ---- by length
not-nil : (x : List ℕ) → 0 < length x → x ≢ []
not-nil x h e = let z : length x ≡ 0 = ap length e in omega arith

-- ---- the child's count is that of its table, and the lowest address of one of the first kind is 0
module _ (child : List ℕ) (t : Opened) (e : opening child ≡ Ok t) where
  pub count-is : t.count ≡ count_of child
  count-is = ap (λ (u : Opened). u.count) (sym (opened-is child t e))

  pub first-lowest : t.kind ≡ First → t.negative ≡ 0
  first-lowest k = let o = opened-is child t e in subst (λ (u : Opened). u.negative ≡ 0) o (first_flat child (index_offset child) (rw o k)).0

-- ---- what the pair answers, by the bytes that are handed out
module _ (child parent : List ℕ) (n : ℕ) (d : List ℕ) where
  some-by : (x : Answer (List ℕ)) → pair_at child parent n ≡ x → d ≡ bytes_read x → d ≢ [] → pair_at child parent n ≡ Ok d
  unfolding bytes_read
  some-by (Ok c) e f h = e ∙ ap Ok (sym f)
  some-by (Err r) e f h = absurd (h f)

  -- a sector where they are not empty, which no sector is
  pub sector-some : d ≡ sector_at child parent n → 0 < length d → pair_at child parent n ≡ Ok d
  sector-some f l = some-by (pair_at child parent n) refl f (not-nil d l)

  pub sector-is : pair_at child parent n ≡ Ok d → (sector_at child parent n ≡ d) × (d ≢ [])
  unfolding pair_at bytes_read
  sector-is e = (ap bytes_read e, over-some child parent (pos n) d e)

-- ---- the pair at address n of the child
module _ (pair : Pair) (n : ℕ) (h : n < (held pair.child).count) where
  abbrev child : List ℕ
  child = pair.child.bytes.now

  abbrev parent : List ℕ
  parent = pair.parent.bytes.now

  abbrev t : Opened
  t = held pair.child

  passed : Passing (pair_at child parent n)
  unfolding pair_verdict
  passed =
      let c = count-is child t pair.child.opens in
      (first_refusal-iff {P = λ m. Passing (pair_at child parent m)} (count_of child) (count_of child) 0 (omega arith) (λ m l. ((λ x. x), (λ x. x)))).0 pair.passes n
      (omega arith) (omega arith)

  first-address : neg_ℤ (pos t.negative) +ℤ pos n ≡ pos n
  first-address = rw (first-lowest child t pair.child.opens pair.first) (ap pos (zero-add n))

  child-read : read child (pos n) ≡ entry_answer child t n
  child-read =
      let m = numbered-at t (pos n) n (address-displaced t (pos n) (pos n) (sym first-address)) h in
      read-entry child t pair.child.opens (pos n) n m.0 m.1

  pub child-entry : EntryChecked child t n
  unfolding pair_at read_over disc_over entry_answer
  child-entry = record {
    inside = h;
    passes =
        ap other_than_21 (sym (ap verdict_of child-read ∙ verdict-of (sector_verdict child (entries child (index_offset child)) t n) _))
        ∙ child-passes (read child (pos n)) (read parent (pos n)) passed;
  }

  abbrev beneath : Answer (List ℕ) → Answer (List ℕ)
  beneath x = over x (read parent (pos n))

  -- where the child has one
  own-by : (x : Answer (List ℕ)) (d : List ℕ) → read child (pos n) ≡ x → d ≡ bytes_read x → 0 < length d → d ≡ sector_of pair n
  unfolding pair_at read_over disc_over bytes_read
  own-by (Ok c) d e f l = f ∙ sym (ap bytes_read (ap beneath e ∙ over-child c _))
  own-by (Err r) d e f l = absurd (not-nil d l f)

  -- where it has none
  gap_by : (x : Answer (List ℕ)) (d : List ℕ) → read child (pos n) ≡ x → d ≡ bytes_read x → length d ≤ 0
      → pair_at child parent n ≡ from_parent (read parent (pos n))
  unfolding pair_at read_over disc_over bytes_read verdict_of
  gap_by (Ok c) d e f l = absurd (over-some child parent (pos n) c (ap beneath e ∙ over-child c _) (sym f ∙ empty d l))
  gap_by (Err r) d e f l =
      ap beneath e ∙ over-parent r _ (only-21 r (child-passes (Err r) (read parent (pos n)) (subst Passing (ap beneath e) passed)))

  module _ {d : List ℕ} (f : d ≡ bytes_read (entry_answer child t n)) where
    pub sector-own : 0 < length d → d ≡ sector_of pair n
    sector-own l = own-by (read child (pos n)) d refl (f ∙ sym (ap bytes_read child-read)) l

    module _ (l : length d ≤ 0) {a : ℤ} (is : a ≡ neg_ℤ (pos t.negative) +ℤ pos n) where
      gap : pair_at child parent n ≡ from_parent (read parent a)
      gap = rw (is ∙ first-address) (gap_by (read child (pos n)) d refl (f ∙ sym (ap bytes_read child-read)) l)

      pub sector-inherited : Passing (from_parent (read parent a))
      sector-inherited = subst Passing gap passed

      pub sector-parents : {x : List ℕ} → x ≡ bytes_read (from_parent (read parent a)) → x ≡ sector_of pair n
      sector-parents g = g ∙ sym (ap bytes_read gap)
