-- Exporting by both rules: what the checks stand for, and what is exported, by what a read answers for each address.
use mathlib.Core.Bool.{true, false}
use mathlib.Core.List.{List, [], flatten, append-nil}
use mathlib.Core.Logic.{◌≢◌, ◌⊎◌, inl, inr, ⊎_elim, ◌↔◌}
use mathlib.Core.Path.{◌≡◌, refl, sym, ap, ◌∙◌, subst}
use Prim.Native.Nat.{ℕ, zero, suc, ◌+◌, ◌*◌, ◌≤◌, ◌<◌}
use native.Mathlib.Nat.{zero-add, mul-le-mul_right, suc-mul, eq-or-lt_of_le}
use native.Mathlib.Omega.{arith}
use lib.ListN.{length, take, get_or, length-replicate}
use lib.IntN.{ℤ, pos, negsuc, ◌+ℤ◌}
use Rattle.std.specs.Prelude.{Ok, Err}
use Rattle.fields.specs.Bytes.{part, overwrite}
use Rattle.fields.proofs.Overwrite.{length_part, part_same, part-whole}
use Rattle.format.specs.declared.AddressRange.{AddressRange}
use Rattle.format.specs.declared.Flat.{Flat}
use Rattle.format.specs.Tests.{below}
use Rattle.format.specs.Lists.{All, of_each, Counts}
use Rattle.format.specs.Refusals.{refusal, ◌then◌, first_refusal, Answer, Verdict}
use Rattle.format.specs.Layouts.{index_offset, entries}
use Rattle.format.specs.Opening.{Opened, opened, open_verdict, range_of, sector_count}
use Rattle.format.specs.Reading.{displaced, not_written, pointer_at, place_of, item_bytes, sector_verdict, read_at, read}
use Rattle.format.specs.Writing.{outcome}
use Rattle.format.specs.Committing.{pieces, sectors_verdict}
use Rattle.format.specs.Exporting.{size_at, size_from, flat_size, piece_at, flat_file, gap_count, size_verdict, file_verdict, exact_verdict, export_verdict, export_exact, flat, export}
use Rattle.format.specs.Demands.{FlatBy, FlatFile, FlatExporting, Missing, SectorOrZeros, FilledFile, FilledExporting, none_filled, RulesAgree}
use Rattle.format.proofs.Tests.{on-or-off, never, off_rest, not_iff, below_on, below-iff, same-iff, differs-iff, and-iff, choose-true, choose-false, choose-cases}
use Rattle.format.proofs.Refusals.{row-iff, then-iff, then-rest, then-stays, passes-or, first_refusal-iff, first_refusal-same, gives, answer-passes, answer-accepted, answer-refused}
use Rattle.format.proofs.Lists.{Sized, length-flatten, length-of_each, get_or-of_each, all-of_each, of_each-is, how_many-counts, how_many-none}
use Rattle.format.proofs.Numbers.{Numbered, address-displaced, past-outside, below-outside}
use Rattle.format.proofs.Checks.{facts, OpenOk, open-ok, SectorOk, sector-ok, AddressOk, address-ok, gives-21, keeps-others, item-inside, entry_read, entry-21, entry-bytes, read-20, read-numbered}
use Rattle.format.proofs.Storing.{get_or-pieces, length-pieces, flatten-pieces, pieces-flatten}
use Rattle.format.proofs.Buffers.{outcome-accepted, outcome-passes}

-- ---- the checks
-- table entry n is not written, or its sector has the size of the lowest written one
abbrev pub SizeOk : List ℕ → Opened → ℕ → Type 0
SizeOk img t n = (not_written img t n ≡ true) ⊎ (size_at img t n ≡ flat_size img t)

pub size_ok : (img : List ℕ) (t : Opened) (n : ℕ) → (size_verdict img t n ≡ Ok tt) ↔ SizeOk img t n
unfolding size_verdict
size_ok img t n = row-iff _ (and-iff not_iff differs-iff)

pub record FileOk (img : List ℕ) (t : Opened) (out : List ℕ) : Type 0 where
  pub sizes : (n : ℕ) → n < t.count → SizeOk img t n
  pub room : length (flat_file img t) ≤ length out

file-ok : (img : List ℕ) (t : Opened) (out : List ℕ) → (file_verdict img t out ≡ Ok tt) ↔ FileOk img t out
unfolding file_verdict
file-ok img t out =
    facts (then-iff (first_refusal-iff t.count _ 0 (omega arith) (λ n h. size_ok img t n)) (row-iff _ below-iff))
    (λ (a, b). record { sizes = λ n h. a n (omega arith) h; room = b }) (λ k. (λ n l h. k.sizes n h, k.room))

pub record ExactSound (img : List ℕ) (o : ℕ) (out : List ℕ) : Type 0 where
  pub opens : OpenOk img o
  pub sectors : (n : ℕ) → n < (opened img o).count → SectorOk img (entries img o) (opened img o) n
  pub file : FileOk img (opened img o) out

pub exact-ok : (img : List ℕ) (o : ℕ) (out : List ℕ) → (exact_verdict img o out ≡ Ok tt) ↔ ExactSound img o out
unfolding exact_verdict
exact-ok img o out =
    let t : Opened = opened img o in
    facts
    (then-iff (open-ok img o) (then-iff (first_refusal-iff t.count _ 0 (omega arith) (λ n h. sector-ok img (entries img o) t n)) (file-ok img t out)))
    (λ (a, (b, c)). record { opens = a; sectors = λ n h. b n (omega arith) h; file = c }) (λ k. (k.opens, (λ n l h. k.sectors n h, k.file)))

pub record ExportSound (img : List ℕ) (o : ℕ) (out : List ℕ) : Type 0 where
  pub opens : OpenOk img o
  pub sectors : (n : ℕ) → n < (opened img o).count → AddressOk img o n
  pub some : ((opened img o).count ≡ 0) ⊎ (gap_count img (opened img o) ≢ (opened img o).count)
  pub file : FileOk img (opened img o) out

pub export_ok : (img : List ℕ) (o : ℕ) (out : List ℕ) → (export_verdict img o out ≡ Ok tt) ↔ ExportSound img o out
unfolding export_verdict sectors_verdict
export_ok img o out =
    let t : Opened = opened img o in
    facts
    (then-iff (open-ok img o)
    (then-iff (first_refusal-iff t.count _ 0 (omega arith) (λ n h. address-ok img (entries img o) t n))
    (then-iff (row-iff _ (and-iff differs-iff same-iff)) (file-ok img t out))))
    (λ (a, (b, (c, d))). record { opens = a; sectors = λ n h. b n (omega arith) h; some = c; file = d })
    (λ k. (k.opens, (λ n l h. k.sectors n h, (k.some, k.file))))

-- of the buffer they look at the length alone
pub verdict-alike : (img : List ℕ) (o : ℕ) (one other : List ℕ) → length one ≡ length other → exact_verdict img o one ≡ exact_verdict img o other
unfolding exact_verdict file_verdict
verdict-alike img o one other e = rw e refl

-- ---- one sector
module _ (img : List ℕ) (o n : ℕ) where
  sector-length : SectorOk img (entries img o) (opened img o) n → length (item_bytes img (pointer_at img (opened img o) n)) ≡ size_at img (opened img o) n
  unfolding item_bytes place_of size_at
  sector-length k = length_part img _ _ (omega (arith, item-inside _ _ _ k.item, k.item.block.fits))

  -- where it is good, its piece is what a read gives
  piece-read : SectorOk img (entries img o) (opened img o) n → entry_read img o n ≡ Ok (piece_at img (opened img o) n)
  unfolding piece_at
  piece-read k = entry-bytes img o n k ∙ ap Ok (sym (choose-false _ _ _ k.written))

  -- its address, from the lowest on
  address-numbered : n < (opened img o).count → Numbered (opened img o) ((range_of (opened img o)).lowest.0 +ℤ pos n) n
  unfolding range_of
  address-numbered h = record { is = address-displaced (opened img o) _ (pos n) refl; inside = h }

-- ---- where every written sector of the k from n on has this size, it is that of the first written one, unless none is written
pub size-or-none : (img : List ℕ) (t : Opened) (size k n : ℕ)
    → ((m : ℕ) → n ≤ m → m < n + k → not_written img t m ≡ false → size_at img t m ≡ size)
    → (size_from img t k n ≡ size) ⊎ ((m : ℕ) → n ≤ m → m < n + k → not_written img t m ≡ true)
unfolding size_from
size-or-none img t size zero n h = inr (λ m l b. absurd (omega arith))
size-or-none img t size (suc k) n h =
    choose-cases (λ s. (s ≡ size) ⊎ ((m : ℕ) → n ≤ m → m < n + suc k → not_written img t m ≡ true)) (not_written img t n) _ _
    (λ e.
    ⊎_elim inl
    (λ none. inr (λ m l b. ⊎_elim (λ q. subst (λ j. not_written img t j ≡ true) q e) (λ q. none m q (omega arith)) (eq-or-lt_of_le l)))
    (size-or-none img t size k (suc n) (λ m l b. h m (omega arith) (omega arith))))
    (λ e. inl (h n (omega arith) (omega arith) e))

pub flat-size : (img : List ℕ) (t : Opened) (size : ℕ) → ((m : ℕ) → m < t.count → not_written img t m ≡ false → size_at img t m ≡ size)
    → (n : ℕ) → n < t.count → not_written img t n ≡ false → flat_size img t ≡ size
unfolding flat_size
flat-size img t size h n b w =
    ⊎_elim (λ q. q) (λ none. absurd (never (none n (omega arith) (omega arith)) w)) (size-or-none img t size t.count 0 (λ m l c. h m (omega arith)))

-- ---- the file, piece by piece
module _ (img : List ℕ) (o : ℕ) (sectors : (n : ℕ) → n < (opened img o).count → AddressOk img o n)
    (sizes : (n : ℕ) → n < (opened img o).count → SizeOk img (opened img o) n) where
  abbrev t : Opened
  t = opened img o

  abbrev all : List (List ℕ)
  all = of_each (piece_at img t) t.count 0

  pub piece-length : (n : ℕ) → n < t.count → length (piece_at img t n) ≡ flat_size img t
  unfolding piece_at
  piece-length n h =
      choose-cases (λ (l : List ℕ). length l ≡ flat_size img t) (not_written img t n) _ _ (λ e. length-replicate {A = ℕ} (flat_size img t) 0)
      (λ e. sector-length img o n (off_rest e (sectors n h)) ∙ off_rest e (sizes n h))

  all-sized : All (Sized (flat_size img t)) all
  all-sized = all-of_each (piece_at img t) t.count 0 (λ n l h. piece-length n (omega arith))

  pub file-length : length (flat_file img t) ≡ t.count * flat_size img t
  unfolding flat_file
  file-length = length-flatten (flat_size img t) all all-sized ∙ ap (λ n. n * flat_size img t) (length-of_each (piece_at img t) t.count 0)

  file-part : (n : ℕ) → n < t.count → part (flat_file img t) (n * flat_size img t) (flat_size img t) ≡ piece_at img t n
  unfolding flat_file
  file-part n h =
      let l : length all ≡ t.count = length-of_each (piece_at img t) t.count 0 in
      sym (get_or-pieces (length all) (flat_size img t) (flatten all) n (omega arith))
      ∙ ap (λ (ls : List (List ℕ)). get_or ls n [])
      (ap (pieces (length all) (flat_size img t)) (sym (append-nil (flatten all))) ∙ pieces-flatten (flat_size img t) all [] all-sized)
      ∙ get_or-of_each (piece_at img t) [] t.count 0 n h ∙ ap (piece_at img t) (zero-add n)

-- by what a read answers
flat-by : (Stands : Answer (List ℕ) → List ℕ → Type 0) (img : List ℕ) → let o = index_offset img in let t = opened img o in
    OpenOk img o → ((n : ℕ) → n < t.count → AddressOk img o n) → ((n : ℕ) → n < t.count → SizeOk img t n)
    → ((n : ℕ) → n < t.count → Stands (entry_read img o n) (piece_at img t n)) → FlatBy Stands img (flat_file img t) (flat_size img t)
unfolding sector_count read range_of
flat-by Stands img opens sectors sizes stands =
    let o : ℕ = index_offset img in
    record {
      range = range_of (opened img o);
      sectors = answer-passes _ _ ((open-ok img o).1 opens);
      whole = file-length img o sectors sizes;
      each = λ n h. rw (read-numbered img o opens _ n (address-numbered img o n h), file-part img o sectors sizes n h) (stands n h);
    }

-- which stands at the front of the buffer
pub front : (file out : List ℕ) → length file ≤ length out → take (length file) (overwrite out 0 file) ≡ file
unfolding part
front file out h = part_same out 0 (length file) file refl (omega arith)

-- ---- 4/13's rule: an image whose every sector passes, all of one size, has this flat file
flat-forth : (img out : List ℕ) → ExactSound img (index_offset img) out
    → FlatFile img (flat_file img (opened img (index_offset img))) (flat_size img (opened img (index_offset img)))
flat-forth img out k =
    flat-by (λ answer piece. answer ≡ Ok piece) img k.opens (λ n h. inr (k.sectors n h)) k.file.sizes (λ n h. piece-read img _ n (k.sectors n h))

pub flat-exporting : FlatExporting
unfolding export_exact
flat-exporting img out n e =
    let r = outcome-accepted _ _ _ _ n e in
    let k = (exact-ok img (index_offset img) out).0 r.passes in
    let is = front (flat_file img (opened img (index_offset img))) out k.file.room in
    rw (r.buffer, ← r.answer) (record { size = flat_size img (opened img (index_offset img)); file = rw is (flat-forth img out k) })

-- ---- an image that opens, by its count and its lowest address
module _ (img : List ℕ) (range : AddressRange) (e : sector_count img ≡ Ok range) where
  pub range-opens : OpenOk img (index_offset img)
  unfolding sector_count
  range-opens = (open-ok img _).0 (answer-accepted _ _ range e).0

  range-is : range_of (opened img (index_offset img)) ≡ range
  unfolding sector_count
  range-is = (answer-accepted _ _ range e).1

  pub range-count : (opened img (index_offset img)).count ≡ range.count
  unfolding range_of
  range-count = ap (λ (r : AddressRange). r.count) range-is

  pub range-read : (n : ℕ) → n < (opened img (index_offset img)).count → entry_read img (index_offset img) n ≡ read img (range.lowest.0 +ℤ pos n)
  unfolding read
  range-read n h =
      sym (read-numbered img _ range-opens _ n (address-numbered img _ n h)) ∙ ap (λ (r : AddressRange). read_at img (index_offset img) (r.lowest.0 +ℤ pos n)) range-is

-- ---- and the other way round: where it has a flat file, this is what is exported
module _ (img file : List ℕ) (size : ℕ) (f : FlatFile img file size) where
  abbrev o : ℕ
  o = index_offset img

  abbrev u : Opened
  u = opened img o

  opens : OpenOk img o
  opens = range-opens img f.range f.sectors

  count-is : u.count ≡ f.range.count
  count-is = range-count img f.range f.sectors

  inside : (n : ℕ) → n < u.count → n * size + size ≤ length file
  inside n h = rw f.whole (rw (← suc-mul n size) (mul-le-mul_right size (omega (arith, count-is))))

  entry-is : (n : ℕ) → n < u.count → entry_read img o n ≡ Ok (part file (n * size) size)
  entry-is n h = range-read img f.range f.sectors n h ∙ f.each n (omega (arith, count-is))

  sector-is : (n : ℕ) → n < u.count → SectorOk img (entries img o) u n × (item_bytes img (pointer_at img u n) ≡ part file (n * size) size)
  unfolding entry_read
  sector-is n h = let r = answer-accepted _ _ _ (entry-is n h) in ((sector-ok img (entries img o) u n).0 r.0, r.1)

  piece_is : (n : ℕ) → n < u.count → piece_at img u n ≡ part file (n * size) size
  unfolding piece_at
  piece_is n h = let r = sector-is n h in choose-false _ _ _ r.0.written ∙ r.1

  size_is : (n : ℕ) → n < u.count → size_at img u n ≡ size
  size_is n h = let r = sector-is n h in sym (sector-length img o n r.0) ∙ ap length r.1 ∙ length_part file (n * size) size (inside n h)

  sized : (n : ℕ) → n < u.count → SizeOk img u n
  sized n h = inr (size_is n h ∙ sym (flat-size img u size (λ m b w. size_is m b) n h (sector-is n h).0.written))

  file-is : flat_file img u ≡ file
  unfolding flat_file part
  file-is =
      let ps : List (List ℕ) = pieces u.count size file in
      let l : length ps ≡ u.count = length-pieces u.count size file in
      ap (λ k. flatten (of_each (piece_at img u) k 0)) (sym l)
      ∙ ap flatten
      (of_each-is (piece_at img u) [] ps 0
      (λ n h. ap (piece_at img u) (zero-add n) ∙ piece_is n (omega arith) ∙ sym (get_or-pieces u.count size file n (omega arith))))
      ∙ flatten-pieces u.count size file ∙ ap (λ k. take k file) (ap (λ k. k * size) count-is ∙ sym f.whole) ∙ part-whole file

  pub flat_back : (out : List ℕ) → length file ≤ length out → export_exact img out ≡ record { result = Ok (length file); buffer = overwrite out 0 file }
  unfolding export_exact
  flat_back out room =
      outcome-passes out _ _ _
      ((exact-ok img o out).1 (record { opens = opens; sectors = λ n h. (sector-is n h).0; file = record { sizes = sized; room = rw file-is room } }))
      ∙ ap (λ (l : List ℕ). record { result = Ok (length l); buffer = overwrite out 0 l }) file-is

  -- its sectors are not empty
  pub flat-sized : 0 < f.range.count → size ≢ 0
  unfolding size_at place_of
  flat-sized h z = (sector-is 0 (rw count-is h)).0.item.block.size (size_is 0 (rw count-is h) ∙ z)

  -- an address that is no address of the disc
  displaced-is : (d : ℤ) → displaced u (f.range.lowest.0 +ℤ d) ≡ d
  unfolding range_of
  displaced-is d = ap (λ (r : AddressRange). displaced u (r.lowest.0 +ℤ d)) (sym (range-is img f.range f.sectors)) ∙ address-displaced u _ d refl

  flat-past : (n : ℕ) → f.range.count ≤ n → read img (f.range.lowest.0 +ℤ pos n) ≡ Err (refusal 20 0)
  unfolding read
  flat-past n h = read-20 img o opens _ (past-outside u _ n (displaced-is (pos n)) (rw count-is h))

  flat-below : (n : ℕ) → read img (f.range.lowest.0 +ℤ negsuc n) ≡ Err (refusal 20 0)
  unfolding read
  flat-below n = read-20 img o opens _ (below-outside u _ n (displaced-is (negsuc n)))

-- ---- two images with one flat file read alike from their lowest addresses on
pub flat-alike : (one other file : List ℕ) (size : ℕ) (f : FlatFile one file size) (g : FlatFile other file size) → f.range.count ≡ g.range.count
    → (d : ℤ) → read one (f.range.lowest.0 +ℤ d) ≡ read other (g.range.lowest.0 +ℤ d)
flat-alike one other file size f g e (pos n) =
    ⊎_elim (λ h. f.each n (below_on _ _ h) ∙ sym (g.each n (rw (← e) (below_on _ _ h))))
    (λ h. flat-past one file size f n (below-iff.0 h) ∙ sym (flat-past other file size g n (rw (← e) (below-iff.0 h))))
    (on-or-off (below n f.range.count))
flat-alike one other file size f g e (negsuc n) = flat-below one file size f n ∙ sym (flat-below other file size g n)

-- ---- 9/13's rule: a table entry is not written exactly if it reads as 21, and then zeros stand for it
module _ (img : List ℕ) (o n : ℕ) where
  pub missing-iff : (not_written img (opened img o) n ≡ true) ↔ Missing (entry_read img o n)
  unfolding entry_read
  missing-iff = (entry-21 img o n, λ m. (gives-21 img (entries img o) (opened img o) n).0 (gives _ (answer-refused _ _ (refusal 21 0) m)))

  piece-stands : AddressOk img o n → SectorOrZeros (flat_size img (opened img o)) (entry_read img o n) (piece_at img (opened img o) n)
  unfolding piece_at
  piece-stands = ⊎_elim (λ e. inr (entry-21 img o n e, choose-true _ _ _ e)) (λ q. inl (piece-read img o n q))

filled_of : (img : List ℕ) (n : Flat) (after file : List ℕ) (size : ℕ) → file ≡ take n.length after → (f : FlatBy (SectorOrZeros size) img file size)
    → Counts (λ i. Missing (read img (f.range.lowest.0 +ℤ pos i))) f.range.count 0 n.filled → FilledFile img n after
filled_of img n after file size e =
    subst (λ (l : List ℕ). (f : FlatBy (SectorOrZeros size) img l size)
    → Counts (λ i. Missing (read img (f.range.lowest.0 +ℤ pos i))) f.range.count 0 n.filled → FilledFile img n after) (sym e)
    (λ f c. record { size = size; file = f; filled = c })

pub filled-exporting : FilledExporting
unfolding export read range_of gap_count flat-by
filled-exporting img out n e =
    let o : ℕ = index_offset img in
    let t : Opened = opened img o in
    let r = outcome-accepted _ _ _ _ n e in
    let k = (export_ok img o out).0 r.passes in
    rw (r.buffer, ← r.answer)
    (filled_of img _ _ (flat_file img t) (flat_size img t) (sym (front (flat_file img t) out k.file.room))
    (flat-by (SectorOrZeros (flat_size img t)) img k.opens k.sectors k.file.sizes (λ i h. piece-stands img o i (k.sectors i h)))
    (how_many-counts (not_written img t) t.count 0
    (λ i l h. rw (read-numbered img o k.opens _ i (address-numbered img o i (omega arith))) (missing-iff img o i))))

-- ---- where nothing is missing, it is 4/13's
module _ (img out : List ℕ) (no : (a : ℤ) → ¬ Missing (read img a)) where
  abbrev i : ℕ
  i = index_offset img

  abbrev v : Opened
  v = opened img i

  all-written : open_verdict img i ≡ Ok tt → (n : ℕ) → n < v.count → not_written img v n ≡ false
  unfolding read
  all-written p n h =
      ⊎_elim (λ e. absurd (no _ (read-numbered img i ((open-ok img i).0 p) _ n (address-numbered img i n h) ∙ entry-21 img i n e))) (λ e. e)
      (on-or-off (not_written img v n))

  no_gaps : open_verdict img i ≡ Ok tt → gap_count img v ≡ 0
  unfolding gap_count
  no_gaps p = how_many-none _ _ 0 (λ n l h. all-written p n (omega arith))

  same-verdict : export_verdict img i out ≡ exact_verdict img i out
  unfolding export_verdict exact_verdict sectors_verdict
  same-verdict = ⊎_elim opens (λ p. then-stays _ _ p ∙ sym (then-stays _ _ p)) (passes-or (open_verdict img i))
    where
      opens : open_verdict img i ≡ Ok tt → export_verdict img i out ≡ exact_verdict img i out
      opens p =
          let all : Verdict = first_refusal (sector_verdict img (entries img i) v) v.count 0 in
          let sectors : sectors_verdict img (entries img i) v ≡ all =
          first_refusal-same _ _ v.count 0 (λ n l h. keeps-others _ (λ g. never ((gives-21 img (entries img i) v n).0 g) (all-written p n (omega arith)))) in
          rw sectors
          (ap (λ (w : Verdict). open_verdict img i then (all then w))
          (then-rest _ _
          ((row-iff (refusal 21 0) (and-iff differs-iff same-iff)).1
          (⊎_elim (λ z. inl (sym z)) (λ z. inr (λ q. omega (arith, no_gaps p))) (eq-or-lt_of_le (omega arith))))))

none_filled_lem : (out : List ℕ) (v : Verdict) (n filled : ℕ) (new : List ℕ) → (v ≡ Ok tt → filled ≡ 0)
    → outcome out v (flat n filled) new ≡ record { result = none_filled (outcome out v n new).result; buffer = (outcome out v n new).buffer }
unfolding outcome none_filled
none_filled_lem out (Ok tt) n filled new h = rw (h refl) refl
none_filled_lem out (Err r) n filled new h = refl

pub rules-agree : RulesAgree
unfolding export export_exact
rules-agree img out none =
    let o : ℕ = index_offset img in
    let file : List ℕ = flat_file img (opened img o) in
    ap (λ (w : Verdict). outcome out w (flat (length file) (gap_count img (opened img o))) (overwrite out 0 file)) (same-verdict img out none)
    ∙ none_filled_lem out _ _ _ _ (λ p. no_gaps img out none ((open-ok img o).1 ((exact-ok img o out).0 p).opens))
