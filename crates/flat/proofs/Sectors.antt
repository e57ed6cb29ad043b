-- The sectors of a disc, each good or not written: their sizes, how many are not written, and what is written for each.
use mathlib.Core.Bool.{Bool, true, false, not}
use mathlib.Core.List.{List, ◌++◌, flatten}
use mathlib.Core.Logic.{◌≢◌, inl, inr}
use mathlib.Core.Path.{◌≡◌, refl, sym, ap, ◌∙◌, subst}
use Prim.Native.Nat.{ℕ, suc, ◌+◌, ◌-◌, ◌*◌, ◌/◌, ◌≤◌, ◌<◌}
use native.Mathlib.Nat.{sub-zero, zero-mul, mul-zero, suc-mul, mul-le-mul_right, div-lt_iff_lt-mul, le-div_iff_mul-le}
use native.Mathlib.Numerals.{add-one}
use native.Mathlib.Omega.{arith}
use lib.ListN.{length, replicate}
use Rattle.std.specs.Prelude.{Some, None, Ok, Err}
use Rattle.fields.specs.Bytes.{part, overwrite}
use Rattle.fields.proofs.Steps.{sub-step, sub-done}
use Rattle.fields.proofs.Overwrite.{length-overwrite, overwrite-then, overwrite-nil}
use Rattle.format.specs.declared.Place.{Place}
use Rattle.format.specs.Tests.{below, choose}
use Rattle.format.specs.Lists.{of_each, how_many}
use Rattle.format.specs.Refusals.{refusal, row}
use Rattle.format.specs.Layouts.{index_offset, entries}
use Rattle.format.specs.Opening.{Opened, opened}
use Rattle.format.specs.Reading.{not_written, item_bytes}
use Rattle.format.specs.Committing.{sectors_verdict}
use Rattle.format.specs.Exporting.{size_at, size_from, flat_size, piece_at, flat_file, size_verdict}
use Rattle.format.proofs.Tests.{below_true, below-iff, differs_true, and-true, choose-true, choose-false}
use Rattle.format.proofs.Refusals.{row-refuses, row-passes, first_refusal-iff}
use Rattle.format.proofs.Checks.{AddressOk, address-ok}
use Rattle.format.proofs.Exporting.{SizeOk, size_ok, piece-length, file-length}
use Rattle.opening.proofs.Accepted.{opened-is}
use Rattle.search.specs.Found.{slot_at}
use Rattle.search.proofs.Disc.{slot-gap, slot-written, slot-place, slot-inside}
use Rattle.flat.specs.Exports.{Uniform}

-- ---- the size of the lowest written one: those below n are not written
module _ (img : List ℕ) (t : Opened) where
  pub sizing-starts : size_from img t (t.count - 0) 0 ≡ flat_size img t
  unfolding flat_size
  sizing-starts = rw sub-zero refl

  module _ {n : ℕ} (g : size_from img t (t.count - n) n ≡ flat_size img t) where
    next : n < t.count → choose (not_written img t n) (size_from img t (t.count - (n + 1)) (n + 1)) (size_at img t n) ≡ flat_size img t
    unfolding size_from
    next h =
        ap (λ k. choose (not_written img t n) (size_from img t (t.count - (n + 1)) k) (size_at img t n)) (add-one n)
        ∙ sym (ap (λ k. size_from img t k n) (sub-step n t.count h)) ∙ g

    pub sizing-goes : n < t.count → None ≡ slot_at img t n → size_from img t (t.count - (n + 1)) (n + 1) ≡ flat_size img t
    sizing-goes h e = sym (choose-true _ _ _ (slot-gap img t n e)) ∙ next h

    pub sizing-found : n < t.count → {p : Place} → Some p ≡ slot_at img t n → p.size ≡ flat_size img t
    unfolding size_at
    sizing-found h {p} e = ap (λ (q : Place). q.size) (sym (slot-place img t n p e)) ∙ sym (choose-false _ _ _ (slot-written img t n p e)) ∙ next h

    pub sizing-none : t.count ≤ n → 0 ≡ flat_size img t
    unfolding size_from
    sizing-none h = sym (ap (λ k. size_from img t k n) (sub-done n t.count h)) ∙ g

-- ---- 40: all written ones have it
module _ (img : List ℕ) (t : Opened) (n : ℕ) where
  pub size-gap : None ≡ slot_at img t n → size_verdict img t n ≡ Ok tt
  size-gap e = (size_ok img t n).1 (inl (slot-gap img t n e))

  module _ {p : Place} (e : Some p ≡ slot_at img t n) {size : ℕ} (s : size ≡ flat_size img t) where
    here : size_at img t n ≡ p.size
    unfolding size_at
    here = ap (λ (q : Place). q.size) (slot-place img t n p e)

    pub size_same : p.size ≡ size → size_verdict img t n ≡ Ok tt
    size_same q = (size_ok img t n).1 (inr (here ∙ q ∙ s))

    pub size-other : p.size ≢ size → size_verdict img t n ≡ Err (refusal 40 0)
    unfolding size_verdict
    size-other q = row-refuses _ _ (and-true _ _ (ap not (slot-written img t n p e)) (differs_true _ _ (λ z. q (sym here ∙ z ∙ sym s))))

-- ---- 41: room for n sectors
module _ (l n size : ℕ) where
  pub room-none : size ≡ 0 → Ok tt ≡ row (below l (n * size)) (refusal 41 0)
  room-none e = sym (row-passes _ (refusal 41 0) (below-iff.1 (rw (e, mul-zero) (omega arith))))

  pub room-short : 0 < size → l / size < n → Err (refusal 41 0) ≡ row (below l (n * size)) (refusal 41 0)
  room-short p h = sym (row-refuses _ _ (below_true _ _ ((div-lt_iff_lt-mul p).0 h)))

  pub room-enough : 0 < size → n ≤ l / size → Ok tt ≡ row (below l (n * size)) (refusal 41 0)
  room-enough p h = sym (row-passes _ (refusal 41 0) (below-iff.1 ((le-div_iff_mul-le p).0 h)))

-- ---- how many a test says yes to: so many of the numbers below a
module _ (f : ℕ → Bool) (n : ℕ) where
  pub record Counting (a so : ℕ) : Type 0 where
    pub few : so ≤ a
    pub left : so + how_many f (n - a) a ≡ how_many f n 0

  pub counting-starts : Counting 0 0
  counting-starts = record { few = omega arith; left = rw sub-zero (omega arith) }

  module _ {a so : ℕ} (g : Counting a so) where
    next-count : a < n → how_many f (n - a) a ≡ choose (f a) (suc (how_many f (n - (a + 1)) (a + 1))) (how_many f (n - (a + 1)) (a + 1))
    unfolding how_many
    next-count h = ap (λ k. how_many f k a) (sub-step a n h) ∙ ap (λ k. choose (f a) (suc (how_many f (n - (a + 1)) k)) (how_many f (n - (a + 1)) k)) (sym (add-one a))

    pub counting-yes : a < n → f a ≡ true → Counting (a + 1) (so + 1)
    counting-yes h e = record { few = omega (arith, g.few); left = omega (arith, g.left, next-count h ∙ choose-true _ _ _ e) }

    pub counting-no : a < n → f a ≡ false → Counting (a + 1) so
    counting-no h e = record { few = omega (arith, g.few); left = omega (arith, g.left, next-count h ∙ choose-false _ _ _ e) }

    pub counting-done : n ≤ a → so ≡ how_many f n 0
    unfolding how_many
    counting-done h = omega (arith, g.left, ap (λ k. how_many f k a) (sub-done a n h))

-- ---- what stands for table entry n, as the code finds it
module _ (img : List ℕ) (t : Opened) (n : ℕ) where
  pub piece-gap : None ≡ slot_at img t n → {size : ℕ} → size ≡ flat_size img t → replicate size 0 ≡ piece_at img t n
  unfolding piece_at
  piece-gap e s = ap (λ k. replicate k 0) s ∙ sym (choose-true _ _ _ (slot-gap img t n e))

  pub piece-sector : {p : Place} → Some p ≡ slot_at img t n → part img p.start.0 p.size ≡ piece_at img t n
  unfolding piece_at item_bytes
  piece-sector {p} e =
      ap (λ (q : Place). part img q.start.0 q.size) (sym (slot-place img t n p e)) ∙ sym (choose-false _ _ _ (slot-written img t n p e))

-- ---- writing them: what is left, written over what stands, is what is asked
pub record Going (img : List ℕ) (t : Opened) (size : ℕ) (out₀ out : List ℕ) (at n : ℕ) : Type 0 where
  pub long : length out ≡ length out₀
  pub place : at ≡ n * size
  pub left : overwrite out at (flatten (of_each (piece_at img t) (t.count - n) n)) ≡ overwrite out₀ 0 (flat_file img t)

module _ (img : List ℕ) (t : Opened) (size : ℕ) (u : Uniform img t size) where
  abbrev o : ℕ
  o = index_offset img

  is : opened img o ≡ t
  is = opened-is img t u.checked.0

  fine : (n : ℕ) → n < (opened img o).count → AddressOk img o n
  unfolding sectors_verdict
  fine = rw is (λ n h. (first_refusal-iff t.count t.count 0 (omega arith) (λ m l. address-ok img (entries img o) t m)).0 u.checked.1 n (omega arith) h)

  sized : (n : ℕ) → n < (opened img o).count → SizeOk img (opened img o) n
  sized = rw is (λ n h. (first_refusal-iff t.count t.count 0 (omega arith) (λ m l. size_ok img t m)).0 u.sizes n (omega arith) h)

  piece-sized : (n : ℕ) → n < t.count → length (piece_at img t n) ≡ size
  piece-sized n h =
      subst (λ (v : Opened). n < v.count → length (piece_at img v n) ≡ flat_size img v) is (piece-length img o fine sized n) h ∙ sym u.size_is

  pub bytes-sized : length (flat_file img t) ≡ t.count * size
  bytes-sized =
      subst (λ (v : Opened). length (flat_file img v) ≡ v.count * flat_size img v) is (file-length img o fine sized) ∙ ap (λ k. t.count * k) (sym u.size_is)

  -- a sector that stands for an entry lies in the image, and has room where a piece has
  module _ {n : ℕ} (h : n < t.count) {p : Place} (e : Some p ≡ slot_at img t n) where
    pub sector-inside : p.start.0 + p.size ≤ length img
    sector-inside = slot-inside img t n p e u.checked h

    pub sector-room : (at l : ℕ) {x : List ℕ} → x ≡ part img p.start.0 p.size → at + size ≤ l → at + length x ≤ l
    sector-room at l w r = rw (w ∙ piece-sector img t n e, piece-sized n h) r

  pub going-starts : (out : List ℕ) → Going img t size out out 0 0
  unfolding flat_file
  going-starts out = record { long = refl; place = sym (zero-mul size); left = rw sub-zero refl }

  module _ {out₀ out : List ℕ} {at n : ℕ} (g : Going img t size out₀ out at n) (room : t.count * size ≤ length out₀) where
    pub going-room : n < t.count → at + size ≤ length out
    going-room h = let m : suc n * size ≤ t.count * size = mul-le-mul_right size h in omega (arith, g.long, g.place, suc-mul n size)

    pub going-goes : n < t.count → {after : List ℕ} → after ≡ overwrite out at (piece_at img t n) → Going img t size out₀ after (at + size) (n + 1)
    unfolding of_each flatten
    going-goes h {after} v =
        let f : ℕ → List ℕ = piece_at img t in
        let rest : List ℕ = flatten (of_each f (t.count - (n + 1)) (n + 1)) in
        let s : flatten (of_each f (t.count - n) n) ≡ f n ++ rest =
        ap (λ k. flatten (of_each f k n)) (sub-step n t.count h) ∙ ap (λ k. f n ++ flatten (of_each f (t.count - (n + 1)) k)) (sym (add-one n)) in
        record {
          long = ap length v ∙ length-overwrite out at (f n) ∙ g.long;
          place = omega (arith, g.place, add-one n, suc-mul n size);
          left = ap (λ (l : List ℕ). overwrite l (at + size) rest) v ∙ ap (λ k. overwrite (overwrite out at (f n)) (at + k) rest) (sym (piece-sized n h))
              ∙ overwrite-then out at (f n) rest ∙ ap (overwrite out at) (sym s) ∙ g.left;
        }

    pub going_done : n ≡ t.count → (at ≡ length (flat_file img t)) × (out ≡ overwrite out₀ 0 (flat_file img t))
    unfolding of_each flatten
    going_done e = (
      g.place ∙ ap (λ k. k * size) e ∙ sym bytes-sized,
      sym (overwrite-nil out at) ∙ ap (λ k. overwrite out at (flatten (of_each (piece_at img t) k n))) (sym (sub-done n t.count (omega arith))) ∙ g.left,
    )
