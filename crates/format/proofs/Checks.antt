-- Each group of checks passes exactly if its facts hold. Nobody else opens a chain of checks.
use Prim.{tt}
use mathlib.Core.Bool.{Bool, true, false, not, true≢false}
use mathlib.Core.List.{List, [], ◌∷◌, cons-ne-nil}
use mathlib.Core.Logic.Iff
use mathlib.Core.Logic.{◌≢◌, ◌⊎◌, ⊎_elim, ⊎_map, inl, inr, ◌↔◌}
use mathlib.Core.Path.{◌≡◌, refl, sym, ap, ◌∙◌, subst}
use Prim.Native.Nat.{ℕ, zero, suc, ◌+◌, ◌*◌, ◌≤◌, ◌<◌}
use native.Mathlib.Nat.{le_trans, mul-le-mul_right, div-mul-le_self, suc-mul}
use native.Mathlib.Omega.{arith}
use lib.ListN.{length, take, get_or}
use lib.IntN.{ℤ}
use lib.Signed.{lt_z, ◌<ℤ◌, lt_z_yes}
use Rattle.std.specs.Prelude.{Ok, Err}
use Rattle.fields.specs.Bytes.{part, equal}
use Rattle.fields.proofs.Equal.{equal-iff}
use Rattle.format.specs.declared.Entry.{Entry}
use Rattle.format.specs.declared.Pointer.{Pointer}
use Rattle.format.specs.declared.Refusal.{Refusal}
use Rattle.format.specs.declared.TableKind.{TableKind}
use Rattle.format.specs.declared.TableKind.TheVariants.{First, Second}
use Rattle.format.specs.Tests.{same, less_than}
use Rattle.format.specs.Lists.{All, done, more}
use Rattle.format.specs.Refusals.{refusal, row, Answer, answer, Verdict}
use Rattle.format.specs.Layouts.{DBLK, DDT2, index_offset, entry_length, entry_at, entries_from, entries, block_length, sector_size, table_alignment, table_negative}
use Rattle.format.specs.Opening.{lacks, header_verdict, index_verdict, entry_verdict, entries_verdict, offsets_with, offsets_of, is_table, one_of, one_verdict, table_at, kind_by, kind_at, extent_verdict, payload_verdict, table_malformed, sums_differ, table_verdict, open_verdict, Opened, opened_as, opened}
use Rattle.format.specs.Reading.{outside, entry_number, table_entry_at, not_written, unknown, unknown_status, pointer_at, has, block_malformed, block_verdict, item_verdict, pointer_verdict, sector_verdict, item_bytes, address_verdict, read_verdict, pointer_of, read_at}
use Rattle.format.specs.Writing.{buffer_verdict, is_second, writable_verdict}
use Rattle.format.specs.Creating.{created_index_at, created_used, create_verdict}
use Rattle.format.specs.Committing.{rising_by, rising, arguments_verdict, any_outside, other_than_21, sectors_verdict, disc_verdict, Appended, used_after, commit_verdict}
use Rattle.format.specs.RollingBack.{rollback_verdict}
use Rattle.format.specs.Facts.{HeaderOk, IndexOk, EntryOk, OfKind, ExtentOk, TableOk, BlockOk, ItemOk, Identified, CreateOk, BufferOk, Rising, empty, single, next, ArgumentsOk}
use Rattle.format.proofs.Lists.{all_head, all_tail}
use Rattle.format.proofs.Tests.{on-or-off, on-iff, not_iff, below-iff, at_least-iff, same-on, same_true, same-iff, differs-iff, or-iff, and-iff, and-on, and-true, choose-true, choose-false}
use Rattle.format.proofs.Numbers.{Numbered, number-inside, number_is}
use Rattle.format.proofs.Refusals.{answer-passes, answer-refuses, not-passes, row-iff, then-iff, then-rest, row-refuses, then-refuses, first_refusal-iff, Says, row-says, then-says, Gives, says-not}

-- the facts of a chain of checks, put into a record or a list
pub facts : {A B C : Type 0} → A ↔ B → (B → C) → (C → B) → A ↔ C
facts h f g = Iff.trans h (f, g)

-- ---- opening
-- the two kinds
pub first-second : First ≢ Second
first-second e = let z : ◌≡◌ {A = ℕ} 0 1 = cc in absurd (omega arith)

pub lacks-iff : (img : List ℕ) (at : ℕ) (letters : List ℕ) → (lacks img at letters ≡ false) ↔ Identified img at letters
unfolding lacks Identified
lacks-iff img at letters = Iff.trans not_iff equal-iff

-- what comparing the bytes answers
pub lacks-not : (img : List ℕ) (at : ℕ) (letters : List ℕ) {r : Bool} → r ≡ equal (part img at (length letters)) letters → not r ≡ lacks img at letters
unfolding lacks
lacks-not img at letters h = ap not h

pub header_ok : (img : List ℕ) → (header_verdict img ≡ Ok tt) ↔ HeaderOk img
unfolding header_verdict
header_ok img =
    facts (then-iff (row-iff _ below-iff) (then-iff (row-iff _ (and-iff (lacks-iff img _ _) (lacks-iff img _ _))) (row-iff _ differs-iff)))
    (λ (a, (b, c)). record { long = a; identifier = b; major = c }) (λ k. (k.long, (k.identifier, k.major)))

pub index_ok : (img : List ℕ) (o : ℕ) → (index_verdict img o ≡ Ok tt) ↔ IndexOk img o
unfolding index_verdict
index_ok img o =
    facts
    (then-iff (row-iff _ (or-iff below-iff below-iff))
    (then-iff (row-iff _ (lacks-iff img o _))
    (then-iff (row-iff _ below-iff) (row-iff _ differs-iff))))
    (λ ((a, b), (c, (d, e))). record { low = a; head = b; identifier = c; fits = d; sum = e })
    (λ k. ((k.low, k.head), (k.identifier, (k.fits, k.sum))))

pub entry-ok : (img : List ℕ) (p : ℕ) → (entry_verdict img p ≡ Ok tt) ↔ EntryOk img (entry_at img p)
unfolding entry_verdict
entry-ok img p =
    facts (then-iff (row-iff _ (or-iff below-iff below-iff)) (row-iff _ differs-iff))
    (λ ((a, b), c). record { low = a; fits = b; identifier = c }) (λ k. ((k.low, k.fits), k.identifier))

pub entries-ok : (img : List ℕ) (k p : ℕ) → (entries_verdict img k p ≡ Ok tt) ↔ All (EntryOk img) (entries_from img k p)
unfolding entries_verdict entries_from
entries-ok img zero p = (λ h. done, λ h. refl)
entries-ok img (suc k) p =
    facts (then-iff (entry-ok img p) (entries-ok img k (p + entry_length))) (λ (h, hs). more h hs) (λ h. (all_head h, all_tail h))

-- the one table of a list of offsets
pub one_ok : (o : ℕ) (l : List ℕ) → (one_of o l ≡ Ok tt) ↔ (l ≡ get_or l 0 0 ∷ [])
unfolding one_of
one_ok o [] = (λ h. absurd (not-passes h), λ h. absurd (cons-ne-nil _ _ (sym h)))
one_ok o (t ∷ []) = (λ h. refl, λ h. refl)
one_ok o (t ∷ u ∷ l) = (λ h. absurd (not-passes h), λ h. absurd (cons-ne-nil u l cc))

-- the kind of the table at t
kind-by : (img : List ℕ) (t : ℕ) (b : Bool) (k : TableKind) → lacks img t DDT2 ≡ b → (kind_by b ≡ k) ↔ OfKind img t k
unfolding kind_by OfKind
kind-by img t true First h = (λ e i. true≢false (sym h ∙ (lacks-iff img t DDT2).1 i), λ i. refl)
kind-by img t true Second h = (λ e. absurd (first-second e), λ i. absurd (true≢false (sym h ∙ (lacks-iff img t DDT2).1 i)))
kind-by img t false First h = (λ e. absurd (first-second (sym e)), λ i. absurd (i ((lacks-iff img t DDT2).0 h)))
kind-by img t false Second h = (λ e. (lacks-iff img t DDT2).0 h, λ i. refl)

pub kind-iff : (img : List ℕ) (t : ℕ) (k : TableKind) → (kind_at img t ≡ k) ↔ OfKind img t k
unfolding kind_at
kind-iff img t k = kind-by img t _ k refl

extent-ok : (img : List ℕ) (k : TableKind) (t : ℕ) → (extent_verdict img k t ≡ Ok tt) ↔ ExtentOk img k t
unfolding extent_verdict ExtentOk
extent-ok img First t = (λ h. tt, λ h. refl)
extent-ok img Second t =
    facts (then-iff (row-iff _ differs-iff) (then-iff (row-iff _ differs-iff) (row-iff _ below-iff)))
    (λ (a, (b, c)). record { levels = a; size_type = b; blocks = c }) (λ k. (k.levels, (k.size_type, k.blocks)))

pub table-ok : (img : List ℕ) (k : TableKind) (t : ℕ) → (table_verdict img k t ≡ Ok tt) ↔ TableOk img k t
unfolding table_verdict payload_verdict table_malformed sums_differ
table-ok img k t =
    facts
    (then-iff (row-iff _ below-iff)
    (then-iff (row-iff _ differs-iff)
    (then-iff (extent-ok img k t)
    (then-iff (row-iff _ (or-iff differs-iff (or-iff below-iff (or-iff below-iff (or-iff differs-iff differs-iff)))))
    (then-iff (row-iff _ below-iff) (row-iff _ (or-iff differs-iff differs-iff)))))))
    (λ (a, (b, (x, ((c, (d, (y, (e, f)))), (g, (h, i)))))).
    record { head = a; compression = b; extent = x; type = c; shift = d; alignment = y; whole = e; unpacked = f; fits = g; cmp_sum = h; sum = i })
    (λ k. (k.head, (k.compression, (k.extent, ((k.type, (k.shift, (k.alignment, (k.whole, k.unpacked)))), (k.fits, (k.cmp_sum, k.sum)))))))

pub table_at-only : (img : List ℕ) (o t : ℕ) → offsets_with is_table (entries img o) ≡ t ∷ [] → table_at img o ≡ t
unfolding table_at
table_at-only img o t e = ap (λ (l : List ℕ). get_or l 0 0) e

-- opening as a whole
pub record OpenOk (img : List ℕ) (o : ℕ) : Type 0 where
  pub header : HeaderOk img
  pub index : IndexOk img o
  pub entries_ok : All (EntryOk img) (entries img o)
  pub only : offsets_with is_table (entries img o) ≡ table_at img o ∷ []
  pub table : TableOk img (kind_at img (table_at img o)) (table_at img o)

pub open-ok : (img : List ℕ) (o : ℕ) → (open_verdict img o ≡ Ok tt) ↔ OpenOk img o
unfolding open_verdict one_verdict table_at entries
open-ok img o =
    facts
    (then-iff (header_ok img)
    (then-iff (index_ok img o)
    (then-iff (entries-ok img _ _)
    (then-iff (one_ok o (offsets_with is_table (entries img o))) (table-ok img (kind_at img (table_at img o)) (table_at img o))))))
    (λ (a, (b, (c, (d, e)))). record { header = a; index = b; entries_ok = c; only = d; table = e })
    (λ k. (k.header, (k.index, (k.entries_ok, (k.only, k.table)))))

-- ---- reading
pub block-ok : (img : List ℕ) (b : ℕ) → (block_verdict img b ≡ Ok tt) ↔ BlockOk img b
unfolding block_verdict block_malformed
block-ok img b =
    facts
    (then-iff (row-iff _ below-iff)
    (then-iff (row-iff _ differs-iff)
    (then-iff (row-iff _ (or-iff differs-iff (or-iff same-iff (or-iff differs-iff differs-iff)))) (row-iff _ below-iff))))
    (λ (a, (c, ((d, (e, (f, g))), h))). record { head = a; compression = c; type = d; size = e; unpacked = f; whole = g; fits = h })
    (λ k. (k.head, (k.compression, ((k.type, (k.size, (k.unpacked, k.whole))), k.fits))))

-- the item of a pointer
abbrev pub PointerOk : List ℕ → Pointer → Type 0
PointerOk img p = ItemOk img p.block.0 p.item.0

pub item_ok : (img : List ℕ) (p : Pointer) → (item_verdict img p ≡ Ok tt) ↔ PointerOk img p
unfolding item_verdict sums_differ
item_ok img p =
    facts (then-iff (block-ok img p.block.0) (then-iff (row-iff _ at_least-iff) (row-iff _ (or-iff differs-iff differs-iff))))
    (λ (a, (b, (c, d))). record { block = a; item = b; cmp_sum = c; sum = d }) (λ k. (k.block, (k.item, (k.cmp_sum, k.sum))))

-- an item lies in its block's payload
pub item-inside : (img : List ℕ) (b i : ℕ) → ItemOk img b i → i * sector_size img b + sector_size img b ≤ block_length img b
item-inside img b i k =
    rw suc-mul at (le_trans (mul-le-mul_right (sector_size img b) k.item) (div-mul-le_self (block_length img b) (sector_size img b)))

-- the numbers that an item's checks give are among 23 to 27, at its block
pub item-says : (P : ℕ → ℕ → Type 0) (img : List ℕ) (p : Pointer) → ((m : ℕ) → 23 ≤ m → m ≤ 27 → P m p.block.0) → Says P (item_verdict img p)
unfolding item_verdict block_verdict
item-says P img p among =
    then-says P _ _
    (then-says P _ _ (says _ 23 (omega arith) (omega arith))
    (then-says P _ _ (says _ 24 (omega arith) (omega arith)) (then-says P _ _ (says _ 25 (omega arith) (omega arith)) (says _ 23 (omega arith) (omega arith)))))
    (then-says P _ _ (says _ 26 (omega arith) (omega arith)) (says _ 27 (omega arith) (omega arith)))
  where
    says : (b : Bool) (m : ℕ) → 23 ≤ m → m ≤ 27 → Says P (row b (refusal m p.block.0))
    says b m h k = row-says P b (refusal m p.block.0) (among m h k)

-- those of a sector's checks
pub sector-numbers : (img : List ℕ) (es : List Entry) (t : Opened) (n : ℕ) → Says (λ m p. (21 ≤ m) × (m ≤ 73)) (sector_verdict img es t n)
unfolding sector_verdict pointer_verdict
sector-numbers img es t n =
    then-says _ _ _ (row-says _ _ (refusal 21 0) (omega arith))
    (then-says _ _ _ (row-says _ _ (refusal 73 0) (omega arith))
    (then-says _ _ _ (row-says _ _ (refusal 22 (table_entry_at t n)) (omega arith)) (item-says _ img (pointer_at img t n) (λ m h k. omega arith))))

pub pointer-not-21 : (img : List ℕ) (es : List Entry) (at : ℕ) (p : Pointer) → ¬ Gives 21 (pointer_verdict img es at p)
unfolding pointer_verdict
pointer-not-21 img es at p =
    says-not 21 _ (then-says (λ m q. m ≢ 21) _ _ (row-says _ _ (refusal 22 at) (λ e. omega arith)) (item-says _ img p (λ m h k e. omega arith)))

-- a verdict but for 21
pub keeps-others : (v : Verdict) → ¬ Gives 21 v → other_than_21 v ≡ v
unfolding other_than_21 Gives
keeps-others (Ok tt) n = refl
keeps-others (Err r) n = choose-false _ _ _ (same-iff.1 n)

-- a refusal that is left out has this number
pub only-21 : (r : Refusal) → other_than_21 (Err r) ≡ Ok tt → r.number ≡ 21
unfolding other_than_21
only-21 r e = ⊎_elim (same-on _ _) (λ h. absurd (not-passes (sym (choose-false _ _ _ h) ∙ e))) (on-or-off (same r.number 21))

other-than-21 : (v : Verdict) → (other_than_21 v ≡ Ok tt) ↔ (Gives 21 v ⊎ (v ≡ Ok tt))
unfolding other_than_21 Gives
other-than-21 (Ok tt) = (λ h. inr refl, λ h. refl)
other-than-21 (Err r) = (
  (λ h. ⊎_elim (λ e. inl (same-on _ _ e)) (λ e. inr (sym (choose-false _ (Ok tt) (Err r) e) ∙ h)) (on-or-off (same r.number 21))),
  ⊎_elim (λ e. choose-true _ _ _ (same_true _ _ e)) (λ e. absurd (not-passes e)),
)

-- the sector of a table entry of an opened image
pub record SectorOk (img : List ℕ) (es : List Entry) (t : Opened) (n : ℕ) : Type 0 where
  pub written : not_written img t n ≡ false
  pub known : unknown_status img t n ≡ false
  pub named : has (pointer_at img t n).block.0 (offsets_of DBLK es) ≡ true
  pub item : PointerOk img (pointer_at img t n)

module _ (img : List ℕ) (es : List Entry) (t : Opened) (n : ℕ) where
  pub sector-ok : (sector_verdict img es t n ≡ Ok tt) ↔ SectorOk img es t n
  unfolding sector_verdict pointer_verdict
  sector-ok =
      facts (then-iff (row-iff _ Iff.rfl) (then-iff (row-iff _ Iff.rfl) (then-iff (row-iff _ not_iff) (item_ok img (pointer_at img t n)))))
      (λ (b, (c, (d, e))). record { written = b; known = c; named = d; item = e }) (λ k. (k.written, (k.known, (k.named, k.item))))

  -- which entries are refused with 21 and with 73
  pub sector-21 : not_written img t n ≡ true → sector_verdict img es t n ≡ Err (refusal 21 0)
  unfolding sector_verdict
  sector-21 e = then-refuses _ _ _ (row-refuses _ _ e)

  pub sector-73 : not_written img t n ≡ false → unknown_status img t n ≡ true → sector_verdict img es t n ≡ Err (refusal 73 0)
  unfolding sector_verdict
  sector-73 e f = then-rest _ _ ((row-iff (refusal 21 0) Iff.rfl).1 e) ∙ then-refuses _ _ _ (row-refuses _ _ f)

  -- all others by what their pointers point to
  pub sector-pointer : not_written img t n ≡ false → unknown_status img t n ≡ false
      → sector_verdict img es t n ≡ pointer_verdict img es (table_entry_at t n) (pointer_at img t n)
  unfolding sector_verdict
  sector-pointer e f = then-rest _ _ ((row-iff (refusal 21 0) Iff.rfl).1 e) ∙ then-rest _ _ ((row-iff (refusal 73 0) Iff.rfl).1 f)

  pub gives-21 : Gives 21 (sector_verdict img es t n) ↔ (not_written img t n ≡ true)
  unfolding Gives
  gives-21 = (
    (λ e. ⊎_elim (λ q. q) (λ q. absurd (otherwise q (on-or-off (unknown_status img t n)) e)) (on-or-off (not_written img t n))),
    λ e. subst (Gives 21) (sym (sector-21 e)) refl,
  )
    where
      otherwise : not_written img t n ≡ false → (unknown_status img t n ≡ true) ⊎ (unknown_status img t n ≡ false) → ¬ Gives 21 (sector_verdict img es t n)
      otherwise q (inl f) e = let z : ◌≡◌ {A = ℕ} 73 21 = subst (Gives 21) (sector-73 q f) e in absurd (omega arith)
      otherwise q (inr f) e = pointer-not-21 img es _ _ (subst (Gives 21) (sector-pointer q f) e)

  -- a commit passes an entry exactly if it is not written or its sector is good
  pub address-ok : (other_than_21 (sector_verdict img es t n) ≡ Ok tt) ↔ ((not_written img t n ≡ true) ⊎ SectorOk img es t n)
  address-ok = Iff.trans (other-than-21 _) (⊎_map gives-21.0 sector-ok.0, ⊎_map gives-21.1 sector-ok.1)

-- the whole of a read's checks, at index offset o
pub record ReadOk (img : List ℕ) (o : ℕ) (a : ℤ) : Type 0 where
  pub opens : OpenOk img o
  pub inside : outside (opened img o) a ≡ false
  pub sector : SectorOk img (entries img o) (opened img o) (entry_number (opened img o) a)

pub read_ok : (img : List ℕ) (o : ℕ) (a : ℤ) → (read_verdict img o a ≡ Ok tt) ↔ ReadOk img o a
unfolding read_verdict address_verdict
read_ok img o a =
    facts (then-iff (open-ok img o) (then-iff (row-iff _ Iff.rfl) (sector-ok img (entries img o) (opened img o) (entry_number (opened img o) a))))
    (λ (b, (c, d)). record { opens = b; inside = c; sector = d }) (λ k. (k.opens, (k.inside, k.sector)))

-- what a read answers of an image that opens: by the number of the address's table entry
unfoldable pub entry_read : List ℕ → ℕ → ℕ → Answer (List ℕ)
entry_read img o n = answer (sector_verdict img (entries img o) (opened img o) n) (item_bytes img (pointer_at img (opened img o) n))

module _ (img : List ℕ) (o n : ℕ) where
  pub entry-21 : not_written img (opened img o) n ≡ true → entry_read img o n ≡ Err (refusal 21 0)
  unfolding entry_read
  entry-21 e = answer-refuses _ _ _ (sector-21 img (entries img o) (opened img o) n e)

  pub entry-bytes : SectorOk img (entries img o) (opened img o) n → entry_read img o n ≡ Ok (item_bytes img (pointer_at img (opened img o) n))
  unfolding entry_read
  entry-bytes q = answer-passes _ _ ((sector-ok img (entries img o) (opened img o) n).1 q)

module _ (img : List ℕ) (o : ℕ) (k : OpenOk img o) (a : ℤ) where
  pub verdict-opened : read_verdict img o a ≡ address_verdict img (entries img o) (opened img o) a
  unfolding read_verdict
  verdict-opened = then-rest _ _ ((open-ok img o).1 k)

  pub read-20 : outside (opened img o) a ≡ true → read_at img o a ≡ Err (refusal 20 0)
  unfolding read_at address_verdict
  read-20 h = answer-refuses _ _ _ (verdict-opened ∙ then-refuses _ _ _ (row-refuses _ _ h))

  verdict-inside : outside (opened img o) a ≡ false → read_verdict img o a ≡ sector_verdict img (entries img o) (opened img o) (entry_number (opened img o) a)
  unfolding address_verdict
  verdict-inside h = verdict-opened ∙ then-rest _ _ ((row-iff (refusal 20 0) Iff.rfl).1 h)

  pub read-inside : outside (opened img o) a ≡ false → read_at img o a ≡ entry_read img o (entry_number (opened img o) a)
  unfolding read_at pointer_of entry_read
  read-inside h = ap (λ (v : Verdict). answer v (item_bytes img (pointer_at img (opened img o) (entry_number (opened img o) a)))) (verdict-inside h)

  -- by the number of its table entry
  pub read-numbered : (n : ℕ) → Numbered (opened img o) a n → read_at img o a ≡ entry_read img o n
  read-numbered n m = read-inside (number-inside (opened img o) a n m) ∙ ap (entry_read img o) (number_is (opened img o) a n m)

  pub verdict-numbered : (n : ℕ) → Numbered (opened img o) a n → read_verdict img o a ≡ sector_verdict img (entries img o) (opened img o) n
  verdict-numbered n m =
      verdict-inside (number-inside (opened img o) a n m) ∙ ap (sector_verdict img (entries img o) (opened img o)) (number_is (opened img o) a n m)

-- ---- what table entries of the first kind are: none has another status, and the lowest address is 0
pub first-known : (img : List ℕ) (t : Opened) (n : ℕ) → t.kind ≡ First → unknown_status img t n ≡ false
unfolding unknown_status unknown
first-known img t n e = rw e

pub first_flat : (img : List ℕ) (o : ℕ) → (opened img o).kind ≡ First → ((opened img o).negative ≡ 0) × ((opened img o).alignment ≡ 0)
unfolding opened opened_as table_negative table_alignment
first_flat img o e = (rw e, rw e)

-- ---- creating
pub created-index : (count : ℕ) → created_index_at count ≡ 153 + 8 * count
unfolding created_index_at
created-index count = omega arith

pub created-used : (count : ℕ) → created_used count ≡ 189 + 8 * count
unfolding created_used
created-used count = omega (arith, created-index count)

pub create-ok : (buffer : List ℕ) (count : ℕ) (application : List ℕ) → (create_verdict buffer count application ≡ Ok tt) ↔ CreateOk buffer count application
unfolding create_verdict
create-ok buffer count application =
    facts
    (then-iff (row-iff _ below-iff) (then-iff (row-iff _ (or-iff same-iff below-iff)) (then-iff (row-iff _ differs-iff) (row-iff _ below-iff))))
    (λ (a, ((b, c), (d, e))). record { long = a; some = b; few = c; sized = d; room = rw (created-used count) at e })
    (λ k. (k.long, ((k.some, k.few), (k.sized, rw (created-used count) k.room))))

-- ---- the buffer of a commit or a rollback
pub buffer-ok : (buffer : List ℕ) (used : ℕ) → (buffer_verdict buffer used ≡ Ok tt) ↔ BufferOk buffer used
unfolding buffer_verdict
buffer-ok buffer used =
    facts (then-iff (row-iff _ below-iff) (row-iff _ below-iff)) (λ (a, b). record { long = a; inside = b }) (λ k. (k.long, k.inside))

-- ---- committing
pub less-iff : (a b : ℤ) → (less_than a b ≡ true) ↔ (a <ℤ b)
unfolding less_than
less-iff a b = facts (on-iff (lt_z a b)) lt_z_yes (λ h. h.lt)

rising-forth : (l : List ℤ) → rising l ≡ true → Rising l
unfolding rising_by
rising-forth [] h = empty
rising-forth (a ∷ []) h = single
rising-forth (a ∷ b ∷ l) h = let r = and-on _ _ h in next ((less-iff a b).0 r.0) (rising-forth (b ∷ l) r.1)

rising-back : (l : List ℤ) → Rising l → rising l ≡ true
unfolding rising_by
rising-back _ empty = refl
rising-back _ single = refl
rising-back _ (next {a = a} {b = b} {l = l} h k) = and-true _ _ ((less-iff a b).1 h) (rising-back (b ∷ l) k)

pub rising-iff : (l : List ℤ) → (rising l ≡ true) ↔ Rising l
rising-iff l = (rising-forth l, rising-back l)

pub arguments-ok : (buffer : List ℕ) (used : ℕ) (addresses : List ℤ) (size : ℕ) (sectors : List ℕ)
    → (arguments_verdict buffer used addresses size sectors ≡ Ok tt) ↔ ArgumentsOk buffer used addresses size sectors
unfolding arguments_verdict
arguments-ok buffer used addresses size sectors =
    facts
    (then-iff (buffer-ok buffer used)
    (then-iff (row-iff _ (or-iff same-iff (or-iff below-iff below-iff))) (then-iff (row-iff _ differs-iff) (row-iff _ (Iff.trans not_iff (rising-iff addresses))))))
    (λ (a, ((b, (c, d)), (e, f))). record { buffer_ok = a; some = b; small = c; few = d; whole = e; rises = f })
    (λ k. (k.buffer_ok, ((k.some, (k.small, k.few)), (k.whole, k.rises))))

-- an image that may be written to: it opens, with a table of the first kind
pub record WritableOk (img : List ℕ) (o : ℕ) : Type 0 where
  pub opens : OpenOk img o
  pub first : (opened img o).kind ≡ First

pub second-iff : (k : TableKind) → (is_second k ≡ false) ↔ (k ≡ First)
unfolding is_second
second-iff First = (λ h. refl, λ h. refl)
second-iff Second = (λ h. absurd (true≢false h), λ h. absurd (first-second (sym h)))

pub writable-ok : (img : List ℕ) (o : ℕ) → (writable_verdict img o ≡ Ok tt) ↔ WritableOk img o
unfolding writable_verdict
writable-ok img o =
    facts (then-iff (open-ok img o) (row-iff _ (second-iff (opened img o).kind)))
    (λ (a, b). record { opens = a; first = b }) (λ k. (k.opens, k.first))

-- table entry n is not written, or its sector is good
abbrev pub AddressOk : List ℕ → ℕ → ℕ → Type 0
AddressOk img o n = (not_written img (opened img o) n ≡ true) ⊎ SectorOk img (entries img o) (opened img o) n

-- the disc at index offset o: it opens, with a table of the first kind, and each of its entries is so
pub record Sound (img : List ℕ) (o : ℕ) : Type 0 where
  pub opens : OpenOk img o
  pub first : (opened img o).kind ≡ First
  pub sectors : (n : ℕ) → n < (opened img o).count → AddressOk img o n

pub record DiscSound (img : List ℕ) (o : ℕ) (addresses : List ℤ) : Type 0 where
  pub sound : Sound img o
  pub inside : any_outside (opened img o) addresses ≡ false

pub disc-ok : (img : List ℕ) (o : ℕ) (addresses : List ℤ) → (disc_verdict img o addresses ≡ Ok tt) ↔ DiscSound img o addresses
unfolding disc_verdict sectors_verdict
disc-ok img o addresses =
    facts
    (then-iff (writable-ok img o)
    (then-iff (row-iff _ Iff.rfl) (first_refusal-iff (opened img o).count _ 0 (omega arith) (λ n h. address-ok img (entries img o) (opened img o) n))))
    (λ (k, (u, s)). record { sound = record { opens = k.opens; first = k.first; sectors = λ n b. s n (omega arith) b }; inside = u })
    (λ k. (record { opens = k.sound.opens; first = k.sound.first }, (k.inside, λ n l b. k.sound.sectors n b)))

-- the whole of a commit's checks
pub record CommitSound (buffer : List ℕ) (used : ℕ) (addresses : List ℤ) (size : ℕ) (sectors : List ℕ) (new : Appended) : Type 0 where
  pub arguments : ArgumentsOk buffer used addresses size sectors
  pub disc : DiscSound (take used buffer) (index_offset (take used buffer)) addresses
  pub room : used_after used new ≤ length buffer

pub commit-ok : (buffer : List ℕ) (used : ℕ) (addresses : List ℤ) (size : ℕ) (sectors : List ℕ) (new : Appended)
    → (commit_verdict buffer used addresses size sectors new ≡ Ok tt) ↔ CommitSound buffer used addresses size sectors new
unfolding commit_verdict
commit-ok buffer used addresses size sectors new =
    facts
    (then-iff (arguments-ok buffer used addresses size sectors)
    (then-iff (disc-ok (take used buffer) (index_offset (take used buffer)) addresses) (row-iff _ below-iff)))
    (λ (a, (b, c)). record { arguments = a; disc = b; room = c }) (λ k. (k.arguments, (k.disc, k.room)))

-- ---- rolling back
pub record RollbackSound (buffer : List ℕ) (used offset : ℕ) : Type 0 where
  pub buffer_ok : BufferOk buffer used
  pub writable : WritableOk (take used buffer) offset

pub rollback-ok : (buffer : List ℕ) (used offset : ℕ) → (rollback_verdict buffer used offset ≡ Ok tt) ↔ RollbackSound buffer used offset
unfolding rollback_verdict
rollback-ok buffer used offset =
    facts (then-iff (buffer-ok buffer used) (writable-ok (take used buffer) offset))
    (λ (a, b). record { buffer_ok = a; writable = b }) (λ k. (k.buffer_ok, k.writable))
