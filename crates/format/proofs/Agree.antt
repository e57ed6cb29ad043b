-- Opening and reading depend only on the bytes that they look at: an image that keeps another's bytes but for the header's index offset
-- and times, and that may be longer, opens and reads as the other does, at the same index offset.
use Prim.{tt}
use mathlib.Core.Bool.{Bool, true, false, not}
use mathlib.Core.List.{List, [], ◌∷◌}
use mathlib.Core.Logic.{◌⊎◌, inl, inr}
use mathlib.Core.Path.{◌≡◌, refl, sym, ap, ◌∙◌}
use Prim.Native.Nat.{ℕ, zero, suc, ◌+◌, ◌*◌, ◌≤◌, ◌<◌}
use native.Mathlib.Nat.{le_trans, le_refl, mul-le-mul_left, mul-suc}
use native.Mathlib.Omega.{arith}
use lib.Dec.{lit≤}
use lib.ListN.{length, get_or}
use lib.IntN.{ℤ}
use Rattle.std.specs.Prelude.{Ok}
use Rattle.crc64.specs.Crc.{crc_of}
use Rattle.fields.specs.Bytes.{part, from_le, field, equal}
use Rattle.fields.proofs.Overwrite.{part-alike}
use Rattle.format.specs.declared.Entry.{Entry}
use Rattle.format.specs.declared.Pointer.{Pointer}
use Rattle.format.specs.declared.TableKind.{TableKind}
use Rattle.format.specs.declared.TableKind.TheVariants.{First, Second}
use Rattle.format.specs.Lists.{All}
use Rattle.format.specs.Refusals.{◌then◌}
use Rattle.format.specs.Layouts.{DBLK, DDT2, header_length, image_major_at, index_offset_at, entry_count, entry_at, entries_from, entries, block_length, sector_size, block_payload, table_shift, table_count, table_length, table_payload, table_alignment, table_negative, shift_at, entries_at, decode, entry_pointer, table_header_length_of, entry_width, block_header_length, index_header_length, entry_length}
use Rattle.format.specs.Opening.{lacks, entries_verdict, one_verdict, offsets_with, offsets_of, is_table, table_at, kind_by, kind_at, Opened, opened_as, opened_at, opened}
use Rattle.format.specs.Reading.{outside, entry_number, table_entry_at, table_entry, unwritten, not_written, unknown, unknown_status, pointer_at, has, place_of, item_bytes, read_at}
use Rattle.format.specs.Facts.{Identified, HeaderOk, IndexOk, EntryOk, ExtentOk, TableOk, ItemOk}
use Rattle.format.proofs.Tests.{on-or-off}
use Rattle.format.proofs.Lists.{all_map, all_head}
use Rattle.format.proofs.Refusals.{then-iff}
use Rattle.format.proofs.Checks.{entries-ok, one_ok, entry_read, entry-21, entry-bytes, read-20, read-inside, OpenOk, PointerOk, SectorOk, AddressOk, Sound, item-inside}
use Rattle.format.proofs.Named.{offsets-all, has_all}
use Rattle.format.proofs.Numbers.{inside-number}

-- the header of a table of either kind has its fields inside: shift, and entries to crc64, with which it ends
pub table-places : (k : TableKind) → (shift_at k + 1 ≤ table_header_length_of k) × (entries_at k + 40 ≡ table_header_length_of k) × (30 ≤ table_header_length_of k)
table-places First = (lit≤ tt, refl, lit≤ tt)
table-places Second = (lit≤ tt, refl, lit≤ tt)

-- places below the header's index offset, or past the header
abbrev pub KeptAt : ℕ → Type 0
KeptAt p = (p < index_offset_at) ⊎ (header_length ≤ p)

-- y keeps x's bytes there
pub record Agree (x y : List ℕ) : Type 0 where
  pub longer : length x ≤ length y
  pub bytes : (p : ℕ) → KeptAt p → p < length x → get_or x p 0 ≡ get_or y p 0

pub agree_refl : (x : List ℕ) → Agree x x
agree_refl x = record { longer = le_refl (length x); bytes = λ p h k. refl }

pub agree_trans : (x y z : List ℕ) → Agree x y → Agree y z → Agree x z
agree_trans x y z f g =
    record { longer = le_trans f.longer g.longer; bytes = λ p h k. f.bytes p h k ∙ g.bytes p h (le_trans k f.longer) }

-- ---- fields, and the facts of each group of checks
module _ (x y : List ℕ) (g : Agree x y) where
  part-rest : (at n : ℕ) → header_length ≤ at → at + n ≤ length x → part x at n ≡ part y at n
  part-rest at n h k = part-alike x y at at n k (le_trans k g.longer) (λ i b. g.bytes (at + i) (inr (omega arith)) (omega arith))

  field-rest : (at n : ℕ) → header_length ≤ at → at + n ≤ length x → field x at n ≡ field y at n
  unfolding field
  field-rest at n h k = ap from_le (part-rest at n h k)

  part-front : (at n : ℕ) → at + n ≤ index_offset_at → header_length ≤ length x → part x at n ≡ part y at n
  part-front at n h k = part-alike x y at at n (omega arith) (omega (arith, g.longer)) (λ i b. g.bytes (at + i) (inl (omega arith)) (omega arith))

  pub header-agree : HeaderOk x → HeaderOk y
  unfolding Identified field
  header-agree k =
      let e0 : part x 0 8 ≡ part y 0 8 = part-front 0 8 (lit≤ tt) k.long in
      record {
        long = le_trans k.long g.longer;
        identifier = rw e0 at k.identifier;
        major = ap from_le (sym (part-front image_major_at 1 (lit≤ tt) k.long)) ∙ k.major;
      }

  index-agree : (o : ℕ) → IndexOk x o → IndexOk y o
  unfolding entry_count Identified
  index-agree o k =
      let low : header_length ≤ o = k.low in
      let head : o + index_header_length ≤ length x = k.head in
      let e0 : part x o 4 ≡ part y o 4 = part-rest o 4 low (omega arith) in
      let e4 : field x (o + 4) 8 ≡ field y (o + 4) 8 = field-rest (o + 4) 8 (omega arith) (omega arith) in
      let e12 : field x (o + 12) 8 ≡ field y (o + 12) 8 = field-rest (o + 12) 8 (omega arith) (omega arith) in
      let ep : part x (o + index_header_length) (entry_length * field x (o + 4) 8) ≡ part y (o + index_header_length) (entry_length * field x (o + 4) 8) = part-rest (o + index_header_length) _ (omega arith) k.fits in
      record {
        low = low;
        head = le_trans head g.longer;
        identifier = sym e0 ∙ k.identifier;
        fits = le_trans (rw e4 at k.fits) g.longer;
        sum = ap (λ n. crc_of (part y (o + index_header_length) (entry_length * n))) (sym e4) ∙ ap crc_of (sym ep) ∙ k.sum ∙ e12;
      }

  entries_from-agree : (k p : ℕ) → header_length ≤ p → p + entry_length * k ≤ length x → entries_from x k p ≡ entries_from y k p
  unfolding entries_from entry_at
  entries_from-agree zero p h l = refl
  entries_from-agree (suc k) p h l =
      let e0 : field x p 4 ≡ field y p 4 = field-rest p 4 h (omega arith) in
      let e4 : field x (p + 4) 4 ≡ field y (p + 4) 4 = field-rest (p + 4) 4 (omega arith) (omega arith) in
      let e8 : field x (p + 8) 8 ≡ field y (p + 8) 8 = field-rest (p + 8) 8 (omega arith) (omega arith) in
      let ih : entries_from x k (p + entry_length) ≡ entries_from y k (p + entry_length) = entries_from-agree k (p + entry_length) (omega arith) (omega arith) in
      λ i. record { blockType = e0 i; dataType = e4 i; offset = record { 0 = e8 i } } ∷ ih i

  entries-agree : (o : ℕ) → IndexOk x o → entries x o ≡ entries y o
  unfolding entries entry_count
  entries-agree o k =
      let low : header_length ≤ o = k.low in
      let head : o + index_header_length ≤ length x = k.head in
      let e4 : field x (o + 4) 8 ≡ field y (o + 4) 8 = field-rest (o + 4) 8 (omega arith) (omega arith) in
      entries_from-agree (field x (o + 4) 8) (o + index_header_length) (omega arith) k.fits ∙ ap (λ n. entries_from y n (o + index_header_length)) e4

  pub entry-agree : (e : Entry) → EntryOk x e → EntryOk y e
  entry-agree e k =
      record {
        low = k.low;
        fits = le_trans k.fits g.longer;
        identifier = sym (field-rest e.offset.0 4 k.low k.fits) ∙ k.identifier;
      }

  -- a field of the header of a table at t
  table-field : (k : TableKind) (t : ℕ) → header_length ≤ t → t + table_header_length_of k ≤ length x → (i n : ℕ) → i + n ≤ table_header_length_of k
      → field x (t + i) n ≡ field y (t + i) n
  table-field k t h head i n b = field-rest (t + i) n (omega arith) (omega arith)

  kind-agree : (t : ℕ) → header_length ≤ t → t + 4 ≤ length x → kind_at x t ≡ kind_at y t
  unfolding kind_at lacks
  kind-agree t h k = ap (λ (l : List ℕ). kind_by (not (equal l DDT2))) (part-rest t 4 h k)

  alignment-agree : (k : TableKind) (t : ℕ) → header_length ≤ t → t + table_header_length_of k ≤ length x → table_alignment x k t ≡ table_alignment y k t
  unfolding table_alignment
  alignment-agree First t h head = refl
  alignment-agree Second t h head = table-field Second t h head 38 1 (lit≤ tt)

  negative-agree : (k : TableKind) (t : ℕ) → header_length ≤ t → t + table_header_length_of k ≤ length x → table_negative x k t ≡ table_negative y k t
  unfolding table_negative
  negative-agree First t h head = refl
  negative-agree Second t h head = table-field Second t h head 18 2 (lit≤ tt)

  extent-agree : (k : TableKind) (t : ℕ) → header_length ≤ t → t + table_header_length_of k ≤ length x → ExtentOk x k t → ExtentOk y k t
  unfolding ExtentOk
  extent-agree First t h head e = tt
  extent-agree Second t h head e =
      let f = table-field Second t h head in
      record {
        levels = sym (f 8 1 (lit≤ tt)) ∙ e.levels;
        size_type = sym (f 41 1 (lit≤ tt)) ∙ e.size_type;
        blocks = rw (negative-agree Second t h head, f 28 2 (lit≤ tt), f 20 8 (lit≤ tt)) at e.blocks;
      }

  table-agree : (k : TableKind) (t : ℕ) → header_length ≤ t → TableOk x k t → TableOk y k t
  table-agree k t h ok =
      let head : t + table_header_length_of k ≤ length x = ok.head in
      let f : (i n : ℕ) → i + n ≤ table_header_length_of k → field x (t + i) n ≡ field y (t + i) n = table-field k t h head in
      let (ps, pe, pl) = table-places k in
      let j : (i : ℕ) → i + 8 ≤ 40 → field x (t + (entries_at k + i)) 8 ≡ field y (t + (entries_at k + i)) 8 = λ i b. f (entries_at k + i) 8 (omega arith) in
      let es : table_shift x k t ≡ table_shift y k t = f (shift_at k) 1 ps in
      let ec : table_count x k t ≡ table_count y k t = f (entries_at k) 8 (omega arith) in
      let el : table_length x k t ≡ table_length y k t = j 16 (lit≤ tt) in
      let ep : table_payload x k t ≡ table_payload y k t = part-rest (t + table_header_length_of k) (table_length x k t) (omega arith) ok.fits ∙ ap (part y (t + table_header_length_of k)) el in
      record {
        head = le_trans head g.longer;
        compression = sym (f 6 2 (omega arith)) ∙ ok.compression;
        extent = extent-agree k t h head ok.extent;
        type = sym (f 4 2 (omega arith)) ∙ ok.type;
        shift = rw es at ok.shift;
        alignment = rw (alignment-agree k t h head) at ok.alignment;
        whole = sym el ∙ ok.whole ∙ ap (λ n. entry_width k * n) ec;
        unpacked = sym (j 8 (lit≤ tt)) ∙ ok.unpacked ∙ el;
        fits = le_trans (rw el at ok.fits) g.longer;
        cmp_sum = ap crc_of (sym ep) ∙ ok.cmp_sum ∙ j 24 (lit≤ tt);
        sum = ap crc_of (sym ep) ∙ ok.sum ∙ j 32 (lit≤ tt);
      }

  pub item-agree : (b i : ℕ) → header_length ≤ b → ItemOk x b i → ItemOk y b i
  item-agree b i h k =
      let head : b + block_header_length ≤ length x = k.block.head in
      let f : (j n : ℕ) → j + n ≤ block_header_length → field x (b + j) n ≡ field y (b + j) n = λ j n c. field-rest (b + j) n (omega arith) (omega arith) in
      let e8 : sector_size x b ≡ sector_size y b = f 8 4 (lit≤ tt) in
      let e16 : block_length x b ≡ block_length y b = f 16 4 (lit≤ tt) in
      let ep : block_payload x b ≡ block_payload y b = part-rest (b + block_header_length) (block_length x b) (omega arith) k.block.fits ∙ ap (part y (b + block_header_length)) e16 in
      record {
        block =
            record {
              head = le_trans head g.longer;
              compression = sym (f 6 2 (lit≤ tt)) ∙ k.block.compression;
              type = sym (f 4 2 (lit≤ tt)) ∙ k.block.type;
              size = λ e. k.block.size (e8 ∙ e);
              unpacked = sym (f 12 4 (lit≤ tt)) ∙ k.block.unpacked ∙ e16;
              whole = rw (e16, e8) at k.block.whole;
              fits = le_trans (rw e16 at k.block.fits) g.longer;
            };
        item = rw (e16, e8) at k.item;
        cmp_sum = ap crc_of (sym ep) ∙ k.cmp_sum ∙ f 20 8 (lit≤ tt);
        sum = ap crc_of (sym ep) ∙ k.sum ∙ f 28 8 (lit≤ tt);
      }

  -- an item's bytes
  pub bytes-agree : (p : Pointer) → header_length ≤ p.block.0 → PointerOk x p → item_bytes x p ≡ item_bytes y p
  unfolding item_bytes place_of
  bytes-agree p h k =
      let b : ℕ = p.block.0 in
      let s : ℕ = sector_size x b in
      let head : b + block_header_length ≤ length x = k.block.head in
      let fits : b + block_header_length + block_length x b ≤ length x = k.block.fits in
      let inside : p.item.0 * s + s ≤ block_length x b = item-inside x b p.item.0 k in
      let e : s ≡ sector_size y b = field-rest (b + 8) 4 (omega arith) (omega arith) in
      part-rest (b + block_header_length + p.item.0 * s) s (omega arith) (omega arith) ∙ ap (λ n. part y (b + block_header_length + p.item.0 * n) n) e

-- ---- the opened image
abbrev pub Low : ℕ → Type 0
Low o = header_length ≤ o

-- what the index names lies past the header, with room for an identifier
offsets-low : (img : List ℕ) (o : ℕ) → OpenOk img o → (f : Entry → Bool) → All (λ n. Low n × (n + 4 ≤ length img)) (offsets_with f (entries img o))
offsets-low img o k f = offsets-all f (λ n. Low n × (n + 4 ≤ length img)) (entries img o) (all_map (λ e h. (h.low, h.fits)) k.entries_ok)

pub block-low : (img : List ℕ) (o : ℕ) → OpenOk img o → (b : ℕ) → has b (offsets_of DBLK (entries img o)) ≡ true → Low b
block-low img o k b h = (has_all _ b (offsets_of DBLK (entries img o)) (offsets-low img o k _) h).0

pub table-low : (img : List ℕ) (o : ℕ) → OpenOk img o → Low (table_at img o) × (table_at img o + 4 ≤ length img)
table-low img o k = all_head (rw k.only at (offsets-low img o k is_table))

-- the same of an index whose entries pass, before the table is looked at
pub table-room : (img : List ℕ) (o : ℕ) → (entries_verdict img (entry_count img o) (o + index_header_length) then one_verdict img o) ≡ Ok tt → table_at img o + 4 ≤ length img
unfolding entries one_verdict table_at
table-room img o h =
    let k = (then-iff (entries-ok img _ _) (one_ok o _)).0 h in
    all_head (rw k.1 at (offsets-all is_table (λ n. n + 4 ≤ length img) _ (all_map (λ e j. j.fits) k.0)))

-- What both kinds share, shown once over the entry's width w: of `count` entries that stand one after another from `start` on, each lies where all do.
pub width-inside : (w start count n end : ℕ) → n < count → start + w * count ≤ end → start + w * n + w ≤ end
width-inside w start count n end h fits =
    let m : w * suc n ≤ w * count = mul-le-mul_left w h in
    let e : w * suc n ≡ w * n + w = mul-suc w n in
    omega arith

-- so a table entry of either kind lies in the image
pub entry-inside : (img : List ℕ) (k : TableKind) (t : ℕ) → TableOk img k t → (n : ℕ) → n < table_count img k t
    → t + table_header_length_of k + entry_width k * n + entry_width k ≤ length img
entry-inside img k t ok n h = width-inside (entry_width k) _ (table_count img k t) n _ h (rw ok.whole at ok.fits)

pub opened-entry : (img : List ℕ) (o : ℕ) → OpenOk img o → (n : ℕ) → n < (opened img o).count
    → table_entry_at (opened img o) n + entry_width (opened img o).kind ≤ length img
unfolding opened opened_as
opened-entry img o k n h = entry-inside img (kind_at img (table_at img o)) (table_at img o) k.table n h

module _ (x y : List ℕ) (g : Agree x y) (o : ℕ) (k : OpenOk x o) where
  abbrev kind : TableKind
  kind = kind_at x (table_at x o)

  table_at-agree : table_at x o ≡ table_at y o
  unfolding table_at
  table_at-agree = ap (λ es. get_or (offsets_with is_table es) 0 0) (entries-agree x y g o k.index)

  kind_at-agree : kind ≡ kind_at y (table_at x o)
  kind_at-agree = let l = table-low x o k in kind-agree x y g (table_at x o) l.0 l.1

  open-agree : OpenOk y o
  open-agree =
      let es : entries x o ≡ entries y o = entries-agree x y g o k.index in
      record {
        header = header-agree x y g k.header;
        index = index-agree x y g o k.index;
        entries_ok = rw es at (all_map (entry-agree x y g) k.entries_ok);
        only = ap (offsets_with is_table) (sym es) ∙ k.only ∙ ap (λ (t : ℕ). t ∷ []) table_at-agree;
        table = rw table_at-agree at (rw kind_at-agree at (table-agree x y g kind (table_at x o) (table-low x o k).0 k.table));
      }

  opened-agree : opened x o ≡ opened y o
  unfolding opened opened_as
  opened-agree =
      let t : ℕ = table_at x o in
      let head : t + table_header_length_of kind ≤ length x = k.table.head in
      let low : header_length ≤ t = (table-low x o k).0 in
      let (ps, pe, pl) = table-places kind in
      let ec : table_count x kind t ≡ table_count y kind t = table-field x y g kind t low head (entries_at kind) 8 (omega arith) in
      let es : table_shift x kind t ≡ table_shift y kind t = table-field x y g kind t low head (shift_at kind) 1 ps in
      let ea : table_alignment x kind t ≡ table_alignment y kind t = alignment-agree x y g kind t low head in
      let en : table_negative x kind t ≡ table_negative y kind t = negative-agree x y g kind t low head in
      (λ i. record { kind = kind; table = t; count = ec i; shift = es i; alignment = ea i; negative = en i })
      ∙ ap (λ q. opened_as y q t) kind_at-agree ∙ ap (opened_at y) table_at-agree

  entry-same : (n : ℕ) → n < (opened x o).count → table_entry x (opened x o) n ≡ table_entry y (opened x o) n
  unfolding opened opened_as table_entry
  entry-same n h =
      let t : ℕ = table_at x o in
      let low : header_length ≤ t = (table-low x o k).0 in
      field-rest x y g (t + table_header_length_of kind + entry_width kind * n) (entry_width kind) (omega arith) (opened-entry x o k n h)

  not_written-agree : (n : ℕ) → n < (opened x o).count → not_written x (opened x o) n ≡ not_written y (opened x o) n
  unfolding not_written
  not_written-agree n h = ap (unwritten (opened x o).kind) (entry-same n h)

  unknown-agree : (n : ℕ) → n < (opened x o).count → unknown_status x (opened x o) n ≡ unknown_status y (opened x o) n
  unfolding unknown_status
  unknown-agree n h = ap (unknown (opened x o).kind) (entry-same n h)

  pointer_at-agree : (n : ℕ) → n < (opened x o).count → pointer_at x (opened x o) n ≡ pointer_at y (opened x o) n
  unfolding pointer_at
  pointer_at-agree n h = ap (λ e. decode (opened x o).shift (opened x o).alignment (entry_pointer (opened x o).kind e)) (entry-same n h)

-- ---- a sound disc stays sound
module _ (x y : List ℕ) (g : Agree x y) (o : ℕ) (s : Sound x o) where
  sector-agree : (n : ℕ) → n < (opened x o).count → SectorOk x (entries x o) (opened x o) n → SectorOk y (entries x o) (opened x o) n
  sector-agree n h k =
      let ep : pointer_at x (opened x o) n ≡ pointer_at y (opened x o) n = pointer_at-agree x y g o s.opens n h in
      record {
        written = sym (not_written-agree x y g o s.opens n h) ∙ k.written;
        known = sym (unknown-agree x y g o s.opens n h) ∙ k.known;
        named = rw ep at k.named;
        item = rw ep at (item-agree x y g _ _ (block-low x o s.opens _ k.named) k.item);
      }

  pub sound-agree : Sound y o
  sound-agree =
      let ee : entries x o ≡ entries y o = entries-agree x y g o s.opens.index in
      let eo : opened x o ≡ opened y o = opened-agree x y g o s.opens in
      record { opens = open-agree x y g o s.opens; first = rw eo at s.first; sectors = rw (ee, eo) at each }
    where
      each : (n : ℕ) → n < (opened x o).count → (not_written y (opened x o) n ≡ true) ⊎ SectorOk y (entries x o) (opened x o) n
      each n h = go (s.sectors n h)
        where
          go : AddressOk x o n → (not_written y (opened x o) n ≡ true) ⊎ SectorOk y (entries x o) (opened x o) n
          go (inl e) = inl (sym (not_written-agree x y g o s.opens n h) ∙ e)
          go (inr k) = inr (sector-agree n h k)

  -- ---- every table entry reads as it did
  entry-agree-read : (n : ℕ) → n < (opened x o).count → entry_read x o n ≡ entry_read y o n
  entry-agree-read n h = go (s.sectors n h)
    where
      ox : OpenOk x o
      ox = s.opens

      eo : opened x o ≡ opened y o
      eo = opened-agree x y g o ox

      go : AddressOk x o n → entry_read x o n ≡ entry_read y o n
      go (inl e) = entry-21 x o n e ∙ sym (entry-21 y o n (rw eo at (sym (not_written-agree x y g o ox n h) ∙ e)))
      go (inr q) =
          let p : Pointer = pointer_at x (opened x o) n in
          let ee : entries x o ≡ entries y o = entries-agree x y g o ox.index in
          let qy : SectorOk y (entries y o) (opened y o) n = rw (ee, eo) at (sector-agree n h q) in
          let ep : p ≡ pointer_at y (opened y o) n = pointer_at-agree x y g o ox n h ∙ ap (λ (t : Opened). pointer_at y t n) eo in
          entry-bytes x o n q ∙ ap Ok (bytes-agree x y g p (block-low x o ox _ q.named) q.item ∙ ap (item_bytes y) ep) ∙ sym (entry-bytes y o n qy)

-- ---- and so does every address
pub reads-agree : (x y : List ℕ) → Agree x y → (o : ℕ) → Sound x o → (a : ℤ) → read_at x o a ≡ read_at y o a
reads-agree x y g o s a = go (on-or-off (outside (opened x o) a))
  where
    oy : OpenOk y o
    oy = open-agree x y g o s.opens

    eo : opened x o ≡ opened y o
    eo = opened-agree x y g o s.opens

    go : (outside (opened x o) a ≡ true) ⊎ (outside (opened x o) a ≡ false) → read_at x o a ≡ read_at y o a
    go (inl e) = read-20 x o s.opens a e ∙ sym (read-20 y o oy a (rw eo at e))
    go (inr e) =
        read-inside x o s.opens a e
        ∙ entry-agree-read x y g o s _ (inside-number (opened x o) a e).inside
        ∙ ap (λ (t : Opened). entry_read y o (entry_number t a)) eo
        ∙ sym (read-inside y o oy a (rw eo at e))
