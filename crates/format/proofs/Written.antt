-- A written block, table and index, read back: the facts of their checks hold, and an image that holds a table and an index opens.
use Prim.{tt}
use mathlib.Core.List.{List, [], ◌∷◌, ◌++◌, map, append-nil, flatten}
use mathlib.Core.Logic.{◌≢◌}
use mathlib.Core.Path.{◌≡◌, refl, sym, ap, ◌∙◌}
use Prim.Native.Nat.{ℕ, zero, suc, ◌+◌, ◌*◌, ◌^◌, ◌≤◌, ◌<◌, zero-le}
use native.Mathlib.Nat.{add-zero, mul-div_cancel, mul-mod_left, not-suc-le-zero, le_of_suc-le-suc}
use native.Mathlib.Omega.{arith}
use lib.Dec.{lit<}
use lib.ListN.{length, get_or, length-append, length-map}
use Rattle.crc64.specs.Crc.{crc_of}
use Rattle.crc64.proofs.Bound.{crc_of-lt}
use Rattle.fields.specs.Bytes.{part, field, equal}
use Rattle.fields.proofs.Holds.{Holds, holds-all, holds-left, holds-right}
use Rattle.fields.proofs.Records.{length-layout, holds-num, holds-raw}
use Rattle.format.specs.declared.Entry.{Entry}
use Rattle.format.specs.declared.TableKind.TheVariants.{First}
use Rattle.format.specs.Lists.{All, done, more}
use Rattle.format.specs.Layouts.{IDX2, DBLK, DDT*, DDT2, header_length, application_length, header_bytes, entry_count, entry_at, entries_from, entries, entry_bytes, index_header, index_bytes, sector_size, block_length, block_payload, block_header, block_bytes, table_shift, table_count, table_length, table_payload, table_header, table_bytes, table_alignment, table_negative, table_header_length, block_header_length, index_header_length, entry_length, table_entry_length}
use Rattle.format.specs.Opening.{offsets_with, is_table, table_at, kind_at, Opened, opened_as, opened_at, opened}
use Rattle.format.specs.Writing.{largest_size}
use Rattle.format.specs.Facts.{Identified, HeaderOk, IndexOk, EntryOk, OfKind, ExtentOk, TableOk, ItemOk}
use Rattle.format.proofs.Lists.{Sized, all-image, length-flatten}
use Rattle.format.proofs.Named.{apart}
use Rattle.format.proofs.Checks.{kind-iff, table_at-only, OpenOk}

pub ddt-ddt2 : DDT* ≢ DDT2
unfolding equal
ddt-ddt2 = apart refl

-- ---- the image header
pub length-header_bytes : (application : List ℕ) (major minor mediaType index created written : ℕ) → length application ≡ application_length
    → length (header_bytes application major minor mediaType index created written) ≡ header_length
unfolding header_bytes
length-header_bytes application major minor mediaType index created written h = simp length-layout (omega arith)

-- ---- pieces of one size
pub holds-piece : (y : List ℕ) (n : ℕ) (ls : List (List ℕ)) → All (Sized n) ls → (p : ℕ) → Holds y p (flatten ls) → (j : ℕ) → j < length ls
    → Holds y (p + j * n) (get_or ls j [])
unfolding flatten
holds-piece y n _ done p h j k = absurd (not-suc-le-zero k)
holds-piece y n _ (more {a = l} {l = ls} e es) p h zero k =
    let z : p + 0 * n ≡ p = omega arith in
    rw z (holds-left y p l (flatten ls) h)
holds-piece y n _ (more {a = l} {l = ls} e es) p h (suc j) k =
    let z : p + suc j * n ≡ p + length l + j * n = rw e (omega arith) in
    rw z (holds-piece y n ls es (p + length l) (holds-right y p l (flatten ls) h refl) j (le_of_suc-le-suc k))

-- ---- table
pub length-table_header : (s c : ℕ) (payload : List ℕ) → length (table_header s c payload) ≡ table_header_length
unfolding table_header
length-table_header s c payload = length-layout _

pub length-table_bytes : (s c : ℕ) (payload : List ℕ) → length (table_bytes s c payload) ≡ table_header_length + length payload
unfolding table_bytes
length-table_bytes s c payload = simp (length-append, length-table_header)

module _ (y : List ℕ) (t s c : ℕ) (payload : List ℕ) (h : Holds y t (table_bytes s c payload)) where
  pub table-identified : Identified y t DDT*
  unfolding Identified table_bytes table_header
  table-identified = holds-raw y t DDT* _ _ h

  pub table-entries : Holds y (t + table_header_length) payload
  unfolding table_bytes
  table-entries = holds-right y t (table_header s c payload) payload h (ap (λ n. t + n) (length-table_header s c payload))

  table-shift : s ≤ 32 → table_shift y First t ≡ s
  unfolding table_bytes table_header
  table-shift small = holds-num y t _ _ h 3 1 s (lit< tt) refl (omega arith)

  table-count : c < 256 ^ 8 → table_count y First t ≡ c
  unfolding table_bytes table_header
  table-count few = holds-num y t _ _ h 4 8 c (lit< tt) refl few

  table-length : length payload < 256 ^ 8 → table_length y First t ≡ length payload
  unfolding table_bytes table_header
  table-length long = holds-num y t _ _ h 6 8 (length payload) (lit< tt) refl long

  table-first : kind_at y t ≡ First
  unfolding OfKind Identified
  table-first = (kind-iff y t First).1 (λ i. ddt-ddt2 (sym table-identified ∙ i))

  table-written : s ≤ 32 → length payload ≡ table_entry_length * c → length payload < 256 ^ 8 → TableOk y First t
  unfolding table_bytes table_header ExtentOk table_alignment
  table-written small whole long =
      let f : t + length (table_bytes s c payload) ≤ length y = h.fits in
      let l : length (table_bytes s c payload) ≡ table_header_length + length payload = length-table_bytes s c payload in
      let en : table_length y First t ≡ length payload = table-length long in
      let ep : crc_of (table_payload y First t) ≡ crc_of payload = ap crc_of (ap (part y (t + table_header_length)) en ∙ holds-all y (t + table_header_length) payload table-entries) in
      record {
        head = omega arith;
        compression = holds-num y t _ _ h 2 2 0 (lit< tt) refl (lit< tt);
        type = holds-num y t _ _ h 1 2 1 (lit< tt) refl (lit< tt);
        extent = tt;
        shift = rw (table-shift small) small;
        alignment = zero-le;
        whole = en ∙ whole ∙ ap (λ n. table_entry_length * n) (sym (table-count (omega arith)));
        unpacked = holds-num y t _ _ h 5 8 (length payload) (lit< tt) refl long ∙ sym en;
        fits = rw en (omega arith);
        cmp_sum = ep ∙ sym (holds-num y t _ _ h 7 8 (crc_of payload) (lit< tt) refl (crc_of-lt payload));
        sum = ep ∙ sym (holds-num y t _ _ h 8 8 (crc_of payload) (lit< tt) refl (crc_of-lt payload));
      }

-- ---- block
pub length-block_header : (size : ℕ) (payload : List ℕ) → length (block_header size payload) ≡ block_header_length
unfolding block_header
length-block_header size payload = length-layout _

pub length-block_bytes : (size : ℕ) (payload : List ℕ) → length (block_bytes size payload) ≡ block_header_length + length payload
unfolding block_bytes
length-block_bytes size payload = simp (length-append, length-block_header)

module _ (y : List ℕ) (b size : ℕ) (payload : List ℕ) (h : Holds y b (block_bytes size payload)) where
  pub block-identified : Identified y b DBLK
  unfolding Identified block_bytes block_header
  block-identified = holds-raw y b DBLK _ _ h

  pub block-items : Holds y (b + block_header_length) payload
  unfolding block_bytes
  block-items = holds-right y b (block_header size payload) payload h (ap (λ n. b + n) (length-block_header size payload))

  pub block_size : size ≤ largest_size → sector_size y b ≡ size
  unfolding block_bytes block_header
  block_size small = holds-num y b _ _ h 3 4 size (lit< tt) refl (omega arith)

  block-length : length payload < 256 ^ 4 → block_length y b ≡ length payload
  unfolding block_bytes block_header
  block-length long = holds-num y b _ _ h 5 4 (length payload) (lit< tt) refl long

  -- a payload of k sectors has the items below k
  pub item-written : size ≢ 0 → size ≤ largest_size → length payload < 256 ^ 4 → (k : ℕ) → length payload ≡ k * size → (i : ℕ) → i < k → ItemOk y b i
  unfolding block_bytes block_header
  item-written pos small long k whole i j =
      let f : b + length (block_bytes size payload) ≤ length y = h.fits in
      let l : length (block_bytes size payload) ≡ block_header_length + length payload = length-block_bytes size payload in
      let en : block_length y b ≡ length payload = block-length long in
      let es : sector_size y b ≡ size = block_size small in
      let ep : crc_of (block_payload y b) ≡ crc_of payload = ap crc_of (ap (part y (b + block_header_length)) en ∙ holds-all y (b + block_header_length) payload block-items) in
      let pos' : 0 < size = omega arith in
      record {
        block = record {
          head = omega arith;
          compression = holds-num y b _ _ h 2 2 0 (lit< tt) refl (lit< tt);
          type = holds-num y b _ _ h 1 2 1 (lit< tt) refl (lit< tt);
          size = λ z. pos (sym es ∙ z);
          unpacked = holds-num y b _ _ h 4 4 (length payload) (lit< tt) refl long ∙ sym en;
          whole = rw (en, es, whole) (mul-mod_left k size);
          fits = rw en (omega arith);
        };
        item = rw (en, es, whole) (rw (mul-div_cancel k pos') j);
        cmp_sum = ep ∙ sym (holds-num y b _ _ h 6 8 (crc_of payload) (lit< tt) refl (crc_of-lt payload));
        sum = ep ∙ sym (holds-num y b _ _ h 7 8 (crc_of payload) (lit< tt) refl (crc_of-lt payload));
      }

-- ---- index
pub record EntryFits (e : Entry) : Type 0 where
  pub blockType : e.blockType < 256 ^ 4
  pub dataType : e.dataType < 256 ^ 4
  pub offset : e.offset.0 < 256 ^ 8

pub length-entry_bytes : (e : Entry) → length (entry_bytes e) ≡ entry_length
unfolding entry_bytes
length-entry_bytes e = length-layout _

pub length-entries_bytes : (es : List Entry) → length (flatten (map entry_bytes es)) ≡ entry_length * length es
length-entries_bytes es = let e = length-flatten entry_length (map entry_bytes es) (all-image entry_bytes length-entry_bytes es) in let l = length-map es entry_bytes in omega arith

pub length-index_header : (count : ℕ) (payload : List ℕ) → length (index_header count payload) ≡ index_header_length
unfolding index_header
length-index_header count payload = length-layout _

pub length-index_bytes : (es : List Entry) → length (index_bytes es) ≡ index_header_length + entry_length * length es
unfolding index_bytes
length-index_bytes es = simp (length-append, length-index_header, length-entries_bytes es)

entry-written : (y : List ℕ) (p : ℕ) (e : Entry) → EntryFits e → Holds y p (entry_bytes e) → entry_at y p ≡ e
unfolding entry_at entry_bytes
entry-written y p e k h =
    let h' : Holds y p (entry_bytes e ++ []) = rw append-nil h in
    let e0 : field y (p + 0) 4 ≡ e.blockType = holds-num y p _ [] h' 0 4 e.blockType (lit< tt) refl k.blockType in
    let e4 : field y (p + 4) 4 ≡ e.dataType = holds-num y p _ [] h' 1 4 e.dataType (lit< tt) refl k.dataType in
    let e8 : field y (p + 8) 8 ≡ e.offset.0 = holds-num y p _ [] h' 2 8 e.offset.0 (lit< tt) refl k.offset in
    λ i. record { blockType = (ap (λ m. field y m 4) (sym (add-zero p)) ∙ e0) i; dataType = e4 i; offset = record { 0 = e8 i } }

entries-written : (y : List ℕ) (p : ℕ) (es : List Entry) → All EntryFits es → Holds y p (flatten (map entry_bytes es)) → entries_from y (length es) p ≡ es
unfolding entries_from flatten
entries-written y p _ done h = refl
entries-written y p _ (more {a = e} {l = es} k ks) h =
    let rest : List ℕ = flatten (map entry_bytes es) in
    let h1 : Holds y p (entry_bytes e) = holds-left y p (entry_bytes e) rest h in
    let h2 : Holds y (p + entry_length) rest = holds-right y p (entry_bytes e) rest h (rw length-entry_bytes) in
    λ i. entry-written y p e k h1 i ∷ entries-written y (p + entry_length) es ks h2 i

module _ (y : List ℕ) (o : ℕ) (es : List Entry) (h : Holds y o (index_bytes es)) where
  abbrev index_payload : List ℕ
  index_payload = flatten (map entry_bytes es)

  index-count : length es < 256 ^ 8 → entry_count y o ≡ length es
  unfolding index_bytes index_header entry_count
  index-count few = holds-num y o _ _ h 1 8 (length es) (lit< tt) refl few

  index-run : Holds y (o + index_header_length) index_payload
  unfolding index_bytes
  index-run = holds-right y o (index_header (length es) index_payload) index_payload h (ap (λ n. o + n) (length-index_header (length es) index_payload))

  index-entries : length es < 256 ^ 8 → All EntryFits es → entries y o ≡ es
  unfolding entries
  index-entries few fit = ap (λ n. entries_from y n (o + index_header_length)) (index-count few) ∙ entries-written y (o + index_header_length) es fit index-run

  index-written : length es < 256 ^ 8 → header_length ≤ o → IndexOk y o
  unfolding Identified index_bytes index_header
  index-written few low =
      let f : o + length (index_bytes es) ≤ length y = h.fits in
      let l : length (index_bytes es) ≡ index_header_length + entry_length * length es = length-index_bytes es in
      let en : entry_count y o ≡ length es = index-count few in
      let lp : length index_payload ≡ entry_length * length es = length-entries_bytes es in
      record {
        low = low;
        head = omega arith;
        identifier = holds-raw y o IDX2 _ _ h;
        fits = rw en (omega arith);
        sum = ap crc_of (ap (λ n. part y (o + index_header_length) (entry_length * n)) en ∙ ap (part y (o + index_header_length)) (sym lp) ∙ holds-all y (o + index_header_length) index_payload index-run)
            ∙ sym (holds-num y o _ _ h 2 8 (crc_of index_payload) (lit< tt) refl (crc_of-lt index_payload));
      }

-- a table of the first kind, opened
abbrev pub opened_first : ℕ → ℕ → ℕ → Opened
opened_first table count shift = record { kind = First; table = table; count = count; shift = shift; alignment = 0; negative = 0 }

-- ---- an image that holds both opens: its index at o has the entries es, of which one names the table at t
pub record Opens (y : List ℕ) (o : ℕ) (es : List Entry) (t : Opened) : Type 0 where
  pub ok : OpenOk y o
  pub named : entries y o ≡ es
  pub found : opened y o ≡ t

module _ (y : List ℕ) (o : ℕ) (es : List Entry) (hi : Holds y o (index_bytes es)) (few : length es < 256 ^ 8) (fit : All EntryFits es)
    (t s c : ℕ) (payload : List ℕ) (ht : Holds y t (table_bytes s c payload)) (small : s ≤ 32) (whole : length payload ≡ table_entry_length * c)
    (long : length payload < 256 ^ 8) (only : offsets_with is_table es ≡ t ∷ []) where
  entries-are : entries y o ≡ es
  entries-are = index-entries y o es hi few fit

  table-at : table_at y o ≡ t
  table-at = table_at-only y o t (ap (offsets_with is_table) entries-are ∙ only)

  -- what is found: a table of the first kind
  pub opens-written : HeaderOk y → header_length ≤ o → All (EntryOk y) es → Opens y o es (opened_first t c s)
  unfolding opened opened_as table_alignment table_negative
  opens-written header low entries_ok =
      let kind : kind_at y t ≡ First = table-first y t s c payload ht in
      record {
        ok = record {
          header = header;
          index = index-written y o es hi few low;
          entries_ok = rw entries-are entries_ok;
          only = rw (entries-are, table-at) only;
          table = rw (table-at, kind) (table-written y t s c payload ht small whole long);
        };
        named = entries-are;
        found = ap (opened_at y) table-at ∙ ap (λ k. opened_as y k t) kind
            ∙ (λ i. opened_first t (table-count y t s c payload ht (omega arith) i) (table-shift y t s c payload ht small i));
      }
