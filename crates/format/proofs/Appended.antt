-- A commit read back: an image that keeps x's bytes and holds the appended block, table and index opens at the new index, and every address
-- reads as handed in, or as it did.
use mathlib.Core.Bool.{true, false}
use mathlib.Core.List.{List, [], ◌∷◌, ◌++◌, map, flatten}
use mathlib.Core.Logic.{◌≢◌, ◌⊎◌, inl, inr, ⊎_elim}
use mathlib.Core.Option.{Option, none, some}
use mathlib.Core.Path.{◌≡◌, refl, sym, ap, ◌∙◌, subst}
use Prim.Native.Nat.{ℕ, suc, ◌+◌, ◌*◌, ◌/◌, ◌^◌, ◌≤◌, ◌<◌, zero-le}
use native.Mathlib.Nat.{zero-add, mul-one, not-suc-le-zero, div-le_self, mul-le-mul_left, mul-le-mul_right, lt_of_lt_of_le, lt_of_le_of_lt}
use native.Mathlib.Omega.{arith}
use lib.Dec.{lit<, lit≤}
use lib.ListN.{length, length-append, get_or, length-map}
use lib.Pow.{pow_mono, pow_pos, high, low}
use Rattle.std.specs.Prelude.{Ok, Err}
use Rattle.fields.specs.Bytes.{part, from_le, to_le}
use Rattle.fields.proofs.Holds.{Holds, holds-all, holds-left, holds-right, holds-number}
use Rattle.format.specs.declared.Entry.{Entry}
use Rattle.format.specs.declared.Pointer.{Pointer}
use Rattle.format.specs.declared.TableKind.TheVariants.{First}
use Rattle.format.specs.Lists.{All, done, more, IsBytes}
use Rattle.format.specs.Refusals.{refusal, Answer}
use Rattle.format.specs.Layouts.{DBLK, DDT*, DDT2, tag, header_length, entries, user_data_entry, index_bytes, sector_size, block_length, table_bytes, entry_pointer, decode, encode, table_header_length, block_header_length, table_entry_length}
use Rattle.format.specs.Opening.{is_user_data, offsets_with, offsets_of, is_table, table_at, Opened, opened_as, opened}
use Rattle.format.specs.Reading.{table_entry, unwritten, not_written, pointer_at, has, place_of, item_bytes}
use Rattle.format.specs.Writing.{largest_size, longest_buffer}
use Rattle.format.specs.Committing.{pieces, given, item_of, old_pointer, new_pointer, item_or_zero, largest_item, shift_for, table_entry_bytes, kept_entries, new_table, new_block, new_block_entry, stored_for, pointers_for, Appended, table_start, index_start, used_after, appended_for, appended, appended_bytes}
use Rattle.format.specs.Facts.{Identified, EntryOk, UserData, OfKind, ItemOk}
use Rattle.format.proofs.Tests.{never, same_true, same-iff, choose-true, choose-false}
use Rattle.format.proofs.Lists.{Sized, all_append, all_map, all_both, all-get, length-flatten, get_d_map}
use Rattle.format.proofs.Checks.{kind-iff, OpenOk, PointerOk, SectorOk, AddressOk, Sound, entry_read, entry-21, entry-bytes, first-known}
use Rattle.format.proofs.Named.{identified-number, type-number, user-data-on, user-data-true, user-data-false, offsets-yes, offsets-no, offsets-append, has-head, has_left, has_right, tables-first, table-offset}
use Rattle.format.proofs.Agree.{Agree, header-agree, entry-agree, item-agree, bytes-agree, block-low}
use Rattle.format.proofs.Written.{EntryFits, holds-piece, length-table_bytes, table-identified, table-entries, length-block_bytes, block-identified, block_size, block-items, item-written, length-index_bytes, opened_first, Opens, opens-written}
use Rattle.format.proofs.KeptEntries.{dblk-ddt, dblk-ddt2, kept-all, kept-blocks, kept_table}
use Rattle.format.proofs.Storing.{handed_or, stored-sized, entries-sized, length-entries, shift_fits, shift-least, Source, old, new, stored_ok, NewPointer, fresh, kept, new-pointer, length-new_pointers, get_or-new_pointers, item-largest, largest-bound}
use Rattle.format.proofs.Bytes.{field_fits, field-bytes, entries_fit, tag-bytes}

-- ---- a pointer, encoded and decoded
decode-encode : (s : ℕ) (p : Pointer) → p.item.0 < 2 ^ s → decode s 0 (encode s p) ≡ p
unfolding decode encode
decode-encode s p h =
    λ i. record { block = record { 0 = (mul-one _ ∙ high p.block.0 s h) i }; item = record { 0 = low p.block.0 s h i } }

encode-lt : (s : ℕ) (p : Pointer) → s ≤ 32 → p.block.0 < 2 ^ 32 → p.item.0 < 2 ^ s → encode s p < 256 ^ 8
unfolding encode
encode-lt s p h b k =
    let m : 2 ^ s ≤ 2 ^ 32 = pow_mono h in
    let q : suc p.block.0 * 2 ^ s ≤ 2 ^ 32 * 2 ^ s = mul-le-mul_right (2 ^ s) b in
    omega arith

encode-pos : (s : ℕ) (p : Pointer) → 0 < p.block.0 → encode s p ≢ 0
unfolding encode
encode-pos s p h e =
    let m : 1 * 2 ^ s ≤ p.block.0 * 2 ^ s = mul-le-mul_right (2 ^ s) h in
    let q : 0 < 2 ^ s = pow_pos s in
    omega arith

-- ---- the new block's entry, where anything is stored
block-entry-all : {P : Entry → Type 0} (b : ℕ) (items : List (List ℕ)) → (0 < length items → P (user_data_entry DBLK b)) → All P (new_block_entry b items)
unfolding new_block_entry
block-entry-all b [] f = done
block-entry-all b (i ∷ is) f = more (f (omega arith)) done

block-no-table : (b : ℕ) (items : List (List ℕ)) → offsets_of DDT* (new_block_entry b items) ≡ []
unfolding new_block_entry offsets_with
block-no-table b [] = refl
block-no-table b (i ∷ is) = offsets-no (is_user_data DDT*) (user_data_entry DBLK b) [] (user-data-false DDT* (user_data_entry DBLK b) (λ q. dblk-ddt (sym (tag-bytes DBLK tt) ∙ q)))

-- ---- the new block: item j of it
record NewItem (y : List ℕ) (b : ℕ) (items : List (List ℕ)) (j : ℕ) : Type 0 where
  identified : Identified y b DBLK
  fits : b + block_header_length ≤ length y
  item : ItemOk y b j
  bytes : item_bytes y (item_of b j) ≡ get_or items j []
  named : has b (offsets_of DBLK (new_block_entry b items)) ≡ true

new-item : (y : List ℕ) (b size : ℕ) (items : List (List ℕ)) → All (Sized size) items → Holds y b (new_block size items) → size ≢ 0 → size ≤ largest_size
    → length y ≤ longest_buffer → (j : ℕ) → j < length items → NewItem y b items j
unfolding new_block new_block_entry item_bytes place_of
new-item y b size [] sz h pos small long j k = absurd (not-suc-le-zero k)
new-item y b size (s ∷ ss) sz h pos small long j k = made
  where
    items : List (List ℕ)
    items = s ∷ ss

    payload : List ℕ
    payload = flatten items

    whole : length payload ≡ length items * size
    whole = length-flatten size items sz

    f : b + (block_header_length + length payload) ≤ length y
    f = subst (λ n. b + n ≤ length y) (length-block_bytes size payload) h.fits

    short : length payload < 256 ^ 4
    short = omega (arith, f)

    es : sector_size y b ≡ size
    es = block_size y b size payload h small

    hi : Holds y (b + block_header_length + j * size) (get_or items j [])
    hi = holds-piece y size items sz (b + block_header_length) (block-items y b size payload h) j k

    ln : length (get_or items j []) ≡ size
    ln = all-get [] sz j k

    made : NewItem y b items j
    made =
        record {
          identified = block-identified y b size payload h;
          fits = omega (arith, f);
          item = item-written y b size payload h pos small short (length items) whole j k;
          bytes = ap (λ n. part y (b + block_header_length + j * n) n) es ∙ ap (part y (b + block_header_length + j * size)) (sym ln) ∙ holds-all y (b + block_header_length + j * size) (get_or items j []) hi;
          named = ap (has b) (offsets-yes (is_user_data DBLK) (user_data_entry DBLK b) [] (user-data-true DBLK (user_data_entry DBLK b) (record { type = tag-bytes DBLK tt; user_data = refl }))) ∙ has-head b b _ refl;
        }

-- ---- a pointer that stands, in an image whose index has the entries es: it names an intact item, which holds these bytes
record Points (y : List ℕ) (es : List Entry) (sector : List ℕ) (p : Pointer) : Type 0 where
  low : header_length ≤ p.block.0
  named : has p.block.0 (offsets_of DBLK es) ≡ true
  ok : PointerOk y p
  bytes : item_bytes y p ≡ sector

-- both numbers of a pointer to an intact item are below 2^32
pub pointer-small : (y : List ℕ) (p : Pointer) → PointerOk y p → length y ≤ longest_buffer → (p.block.0 < 2 ^ 32) × (p.item.0 < 2 ^ 32)
pointer-small y p k long =
    let fits : p.block.0 + block_header_length + block_length y p.block.0 ≤ length y = k.block.fits in
    let i : p.item.0 < block_length y p.block.0 / sector_size y p.block.0 = k.item in
    let d : block_length y p.block.0 / sector_size y p.block.0 ≤ block_length y p.block.0 = div-le_self _ _ in
    (omega arith, omega arith)

flatten-block : (size : ℕ) (items : List (List ℕ)) → length (flatten items) ≤ length (new_block size items)
unfolding flatten new_block
flatten-block size [] = omega arith
flatten-block size (i ∷ is) = omega (arith, length-block_bytes size (flatten (i ∷ is)))

-- what an address gets, nothing or a pointer that stands, and what it then reads as
data Gets (y : List ℕ) (es : List Entry) : Option Pointer → Answer (List ℕ) → Type 0 where
  nothing : Gets y es none (Err (refusal 21 0))
  stands : {p : Pointer} {sector : List ℕ} → Points y es sector p → Gets y es (some p) (Ok sector)

-- ---- the table entry of an address, read back
entry_zero : (y : List ℕ) (t c s n : ℕ) → table_entry y (opened_first t c s) n ≡ 0 → not_written y (opened_first t c s) n ≡ true
unfolding not_written unwritten
entry_zero y t c s n e = same_true _ _ e

entry_other : (y : List ℕ) (t c s n : ℕ) → table_entry y (opened_first t c s) n ≢ 0 → not_written y (opened_first t c s) n ≡ false
unfolding not_written unwritten
entry_other y t c s n e = same-iff.1 e

-- ---- the index of an image of bytes that opens with a table of the first kind has no entry for one of the second
none-second : (x : List ℕ) → IsBytes x → (o : ℕ) → OpenOk x o → (opened x o).kind ≡ First → All (λ (e : Entry). ¬ UserData DDT2 e) (entries x o)
unfolding opened opened_as OfKind Identified
none-second x b o k f =
    let n : ¬ (part x (table_at x o) 4 ≡ DDT2) = (kind-iff x (table_at x o) First).0 f in
    all_map
    (λ e (h, j) u.
    let at : e.offset.0 ≡ table_at x o = j (inr u) in
    let is : part x e.offset.0 4 ≡ DDT2 = sym (field-bytes b e.offset.0 4 h.fits) ∙ ap (to_le 4) h.identifier ∙ u.type in
    n (ap (λ m. part x m 4) (sym at) ∙ is))
    (all_both k.entries_ok (table-offset (entries x o) (table_at x o) k.only))

-- ---- where what is appended ends
pub appended-total : (used : ℕ) (parts : Appended) → used + length (appended_bytes parts) ≡ used_after used parts
unfolding appended_bytes used_after index_start table_start
appended-total used parts = simp length-append (omega arith)

-- ---- the disc of y at index offset i, whose entries are es, after the sectors ds were committed at these table entries to the disc of x at o
pub record NewDisc (x : List ℕ) (o : ℕ) (addresses : List ℕ) (ds : List (List ℕ)) (y : List ℕ) (i : ℕ) (es : List Entry) : Type 0 where
  pub sound : Sound y i
  pub count : (opened y i).count ≡ (opened x o).count
  pub reads : (n : ℕ) → n < (opened x o).count → entry_read y i n ≡ handed_or (given addresses ds n) (entry_read x o n)
  pub index : entries y i ≡ es

module _ (x : List ℕ) (o : ℕ) (addresses : List ℕ) (size : ℕ) (sectors : List ℕ) where
  abbrev ds : List (List ℕ)
  ds = pieces (length addresses) size sectors

  abbrev items : List (List ℕ)
  items = (stored_for x o addresses size sectors).items

  abbrev ps : List Pointer
  ps = (stored_for x o addresses size sectors).pointers

  abbrev pointers : List (Option Pointer)
  pointers = pointers_for x o addresses ps

  abbrev shift : ℕ
  shift = shift_for (largest_item pointers)

  abbrev payload : List ℕ
  payload = flatten (map (table_entry_bytes shift) pointers)

  -- what is appended, and where its table and its index stand
  abbrev added : Appended
  added = appended x o addresses size sectors

  abbrev new_table_at : ℕ
  new_table_at = table_start (length x) (new_block size items)

  abbrev new_index_at : ℕ
  new_index_at = index_start (length x) added

  abbrev new_entries : List Entry
  new_entries = kept_entries new_table_at (entries x o) ++ new_block_entry (length x) items

  -- what a commit promises of an address
  abbrev expected : ℕ → Answer (List ℕ)
  expected a = handed_or (given addresses ds a) (entry_read x o a)

  length-pointers : length pointers ≡ (opened x o).count
  unfolding pointers_for
  length-pointers = length-new_pointers x (opened x o) addresses ps (opened x o).count 0

  pointer-at : (a : ℕ) → a < (opened x o).count → get_or pointers a none ≡ new_pointer x (opened x o) addresses ps a
  unfolding pointers_for
  pointer-at a k = get_or-new_pointers x (opened x o) addresses ps (opened x o).count 0 a k ∙ ap (new_pointer x (opened x o) addresses ps) (zero-add a)

  -- ---- the items of the new table
  module _ (s : Sound x o) (short : length x ≤ longest_buffer) (few : length items ≤ longest_buffer) where
    old_below : (a : ℕ) → AddressOk x o a → item_or_zero (old_pointer x (opened x o) a) < 2 ^ 32
    unfolding old_pointer item_or_zero
    old_below a (inl e) = rw (choose-true _ none (some (pointer_at x (opened x o) a)) e) (lit< tt)
    old_below a (inr q) = rw (choose-false _ none (some (pointer_at x (opened x o) a)) q.written) (pointer-small x _ q.item short).1

    source-below : {sector : List ℕ} (p : Pointer) → Source x (opened x o) (length x) items sector p → p.item.0 < 2 ^ 32
    source-below _ (new {i = i} j q) = omega arith
    source-below _ (old {a = a} k) = go (s.sectors a k.inside)
      where
        go : AddressOk x o a → (pointer_at x (opened x o) a).item.0 < 2 ^ 32
        go (inl e) = absurd (never e k.written)
        go (inr q) = (pointer-small x _ q.item short).1

    item-below : (j : ℕ) → j < length pointers → item_or_zero (get_or pointers j none) < 2 ^ 32
    unfolding stored_for item_or_zero
    item-below j k =
        let jc : j < (opened x o).count = omega (arith, length-pointers) in
        rw (pointer-at j jc) (go jc _ _ (new-pointer x (opened x o) (length x) items j addresses ds ps (stored_ok x (opened x o) (length x) (Sized size) ds []).sources))
      where
        go : j < (opened x o).count → (u : Option Pointer) (v : Option (List ℕ)) → NewPointer x (opened x o) (length x) items j u v → item_or_zero u < 2 ^ 32
        go jc _ _ (fresh {p = p} {sector = d} q) = source-below p q
        go jc _ _ kept = old_below j (s.sectors j jc)

    largest-below : largest_item pointers < 2 ^ 32
    largest-below = largest-bound (2 ^ 32) pointers (lit< tt) item-below

    pub shift_small : shift ≤ 32
    unfolding shift_for
    shift_small = shift-least 64 0 (largest_item pointers) 32 zero-le largest-below

    shift-holds : largest_item pointers < 2 ^ shift
    unfolding shift_for
    shift-holds = shift_fits 64 0 (largest_item pointers) (lt_of_lt_of_le largest-below (lit≤ tt))

  module _ (y : List ℕ) (g : Agree x y) (s : Sound x o) (is_bytes : IsBytes x) (pos : size ≢ 0) (small : size ≤ largest_size)
      (whole : length sectors ≡ length addresses * size) (h : Holds y (length x) (appended_bytes added)) (long : length y ≤ longest_buffer) where
    hb : Holds y (length x) (new_block size items)
    unfolding appended_bytes appended appended_for
    hb = holds-left y (length x) added.block (added.table ++ added.index) h

    hti : Holds y new_table_at (added.table ++ added.index)
    unfolding appended_bytes appended appended_for table_start
    hti = holds-right y (length x) added.block (added.table ++ added.index) h refl

    ht : Holds y new_table_at (table_bytes shift (length pointers) payload)
    unfolding appended appended_for new_table
    ht = holds-left y new_table_at added.table added.index hti

    hi : Holds y new_index_at (index_bytes new_entries)
    unfolding appended appended_for index_start
    hi = holds-right y new_table_at added.table added.index hti refl

    items-sized : All (Sized size) items
    unfolding stored_for
    items-sized = stored-sized x (opened x o) (length x) (length addresses) size sectors whole

    x-long : header_length ≤ length x
    x-long = s.opens.header.long

    -- ---- pointers that stand
    named-old : (b : ℕ) → has b (offsets_of DBLK (entries x o)) ≡ true → has b (offsets_of DBLK new_entries) ≡ true
    named-old b k =
        ap (has b) (offsets-append (is_user_data DBLK) (kept_entries new_table_at (entries x o)) (new_block_entry (length x) items))
        ∙ has_left b _ (offsets_of DBLK (new_block_entry (length x) items)) (ap (has b) (kept-blocks new_table_at (entries x o)) ∙ k)

    old-points : (a : ℕ) → SectorOk x (entries x o) (opened x o) a → Points y new_entries (item_bytes x (pointer_at x (opened x o) a)) (pointer_at x (opened x o) a)
    old-points a k =
        let p : Pointer = pointer_at x (opened x o) a in
        let b : ℕ = p.block.0 in
        let low : header_length ≤ b = block-low x o s.opens b k.named in
        record {
          low = low;
          named = named-old b k.named;
          ok = item-agree x y g b p.item.0 low k.item;
          bytes = sym (bytes-agree x y g p low k.item);
        }

    new-points : (i : ℕ) (sector : List ℕ) → i < length items → get_or items i [] ≡ sector → Points y new_entries sector (item_of (length x) i)
    new-points i sector j q =
        let n : NewItem y (length x) items i = new-item y (length x) size items items-sized hb pos small long i j in
        record {
          low = x-long;
          named = ap (has (length x)) (offsets-append (is_user_data DBLK) (kept_entries new_table_at (entries x o)) (new_block_entry (length x) items))
              ∙ has_right (length x) (offsets_of DBLK (kept_entries new_table_at (entries x o))) _ n.named;
          ok = n.item;
          bytes = n.bytes ∙ q;
        }

    source-points : (p : Pointer) (sector : List ℕ) → Source x (opened x o) (length x) items sector p → Points y new_entries sector p
    source-points _ sector (new {i = i} j q) = new-points i sector j q
    source-points _ sector (old {a = a} k) = go (s.sectors a k.inside)
      where
        go : AddressOk x o a → Points y new_entries sector (pointer_at x (opened x o) a)
        go (inl e) = absurd (never e k.written)
        go (inr q) = subst (λ (d : List ℕ). Points y new_entries d (pointer_at x (opened x o) a)) k.bytes (old-points a q)

    -- ---- what each address gets
    old-gets : (a : ℕ) → a < (opened x o).count → Gets y new_entries (old_pointer x (opened x o) a) (entry_read x o a)
    unfolding old_pointer
    old-gets a k = go (s.sectors a k)
      where
        go : AddressOk x o a → Gets y new_entries (old_pointer x (opened x o) a) (entry_read x o a)
        go (inl e) = rw (choose-true _ none (some (pointer_at x (opened x o) a)) e, entry-21 x o a e) nothing
        go (inr q) = rw (choose-false _ none (some (pointer_at x (opened x o) a)) q.written, entry-bytes x o a q) (stands (old-points a q))

    gets : (a : ℕ) → a < (opened x o).count → Gets y new_entries (new_pointer x (opened x o) addresses ps a) (expected a)
    unfolding stored_for handed_or
    gets a k = go _ _ (new-pointer x (opened x o) (length x) items a addresses ds ps (stored_ok x (opened x o) (length x) (Sized size) ds []).sources)
      where
        go : (u : Option Pointer) (v : Option (List ℕ)) → NewPointer x (opened x o) (length x) items a u v → Gets y new_entries u (handed_or v (entry_read x o a))
        go _ _ (fresh {p = p} {sector = d} q) = stands (source-points p d q)
        go _ _ kept = old-gets a k

    -- ---- the table
    items-few : length items ≤ longest_buffer
    items-few =
        let n : length items * 1 ≤ length items * size = mul-le-mul_left (length items) (omega arith) in
        let f = length-flatten size items items-sized in
        omega (arith, hb.fits, flatten-block size items)

    x-short : length x ≤ longest_buffer
    x-short = omega (arith, g.longer)

    payload-whole : length payload ≡ table_entry_length * length pointers
    payload-whole = length-entries shift pointers

    payload-short : length payload < 256 ^ 8
    payload-short = omega (arith, ht.fits, length-table_bytes shift (length pointers) payload)

    table_fits : new_table_at + table_header_length ≤ length y
    table_fits = omega (arith, ht.fits, length-table_bytes shift (length pointers) payload)

    -- ---- the index
    block-entry-fits : EntryFits (user_data_entry DBLK (length x))
    unfolding tag from_le
    block-entry-fits = record { blockType = lit< tt; dataType = lit< tt; offset = omega (arith, g.longer) }

    kept-fit : All EntryFits (kept_entries new_table_at (entries x o))
    unfolding entries
    kept-fit =
        kept-all EntryFits new_table_at (entries x o)
        (λ e k q. record { blockType = k.blockType; dataType = k.dataType; offset = omega (arith, table_fits) }) (entries_fit x is_bytes _ _)

    new-entries-fit : All EntryFits new_entries
    new-entries-fit = all_append kept-fit (block-entry-all (length x) items (λ n. block-entry-fits))

    block-entry-ok : 0 < length items → EntryOk y (user_data_entry DBLK (length x))
    block-entry-ok k =
        let n = new-item y (length x) size items items-sized hb pos small long 0 k in
        record { low = x-long; fits = omega (arith, n.fits); identifier = identified-number y (length x) DBLK n.identified }

    new-entries-ok : All (EntryOk y) new_entries
    unfolding table_start
    new-entries-ok =
        all_append
        (all_map (λ e k. k.1)
        (kept-all (λ (e : Entry). (e.blockType < 256 ^ 4) × EntryOk y e) new_table_at (entries x o)
        (λ e k q. (
          k.0,
          record {
            low = omega (arith, x-long);
            fits = omega (arith, table_fits);
            identifier = identified-number y new_table_at DDT* (table-identified y new_table_at shift (length pointers) payload ht) ∙ sym (type-number e k.0 (user-data-on DDT* e q));
          },
        ))
        (all_map (λ e k. (rw (← k.identifier) (field_fits is_bytes e.offset.0 4), entry-agree x y g e k)) s.opens.entries_ok)))
        (block-entry-all (length x) items block-entry-ok)

    no_second : All (λ (e : Entry). ¬ UserData DDT2 e) (entries x o)
    no_second = none-second x is_bytes o s.opens s.first

    new-no-second : All (λ (e : Entry). ¬ UserData DDT2 e) new_entries
    new-no-second =
        all_append
        (kept-all (λ (e : Entry). ¬ UserData DDT2 e) new_table_at (entries x o) (λ e n q u. n (record { type = u.type; user_data = u.user_data })) no_second)
        (block-entry-all (length x) items (λ n u. dblk-ddt2 (sym (tag-bytes DBLK tt) ∙ u.type)))

    only-table : offsets_with is_table new_entries ≡ new_table_at ∷ []
    only-table =
        tables-first new_entries new-no-second
        ∙ offsets-append (is_user_data DDT*) (kept_entries new_table_at (entries x o)) (new_block_entry (length x) items)
        ∙ ap (λ (l : List ℕ). l ++ offsets_of DDT* (new_block_entry (length x) items))
        (kept_table new_table_at (entries x o) ∙ ap (map (λ (o : ℕ). new_table_at)) (sym (tables-first (entries x o) no_second) ∙ s.opens.only))
        ∙ ap (λ (l : List ℕ). new_table_at ∷ l) (block-no-table (length x) items)

    -- ---- the disc opens
    abbrev new_opened : Opened
    new_opened = opened_first new_table_at (opened x o).count shift

    opens-new : Opens y new_index_at new_entries new_opened
    unfolding index_start table_start
    opens-new =
        rw length-pointers at
        (opens-written y new_index_at new_entries hi (omega (arith, hi.fits, length-index_bytes new_entries)) new-entries-fit new_table_at shift (length pointers) payload ht
        (shift_small s x-short items-few) payload-whole payload-short only-table (header-agree x y g s.opens.header) (omega (arith, x-long)) new-entries-ok)

    -- ---- the table's entries
    abbrev new_ptr : ℕ → Option Pointer
    new_ptr a = new_pointer x (opened x o) addresses ps a

    pointer-holds : (a : ℕ) → a < (opened x o).count → Holds y (new_table_at + table_header_length + table_entry_length * a) (table_entry_bytes shift (new_ptr a))
    pointer-holds a k =
        let hp : Holds y (new_table_at + table_header_length) payload = table-entries y new_table_at shift (length pointers) payload ht in
        let lm : length (map (table_entry_bytes shift) pointers) ≡ length pointers = length-map pointers (table_entry_bytes shift) in
        let lp : length pointers ≡ (opened x o).count = length-pointers in
        let hj : Holds y (new_table_at + table_header_length + a * table_entry_length) (get_or (map (table_entry_bytes shift) pointers) a []) =
        holds-piece y table_entry_length (map (table_entry_bytes shift) pointers) (entries-sized shift pointers) (new_table_at + table_header_length) hp a (omega arith) in
        let e : get_or (map (table_entry_bytes shift) pointers) a [] ≡ table_entry_bytes shift (new_ptr a) =
        get_d_map (table_entry_bytes shift) pointers a none [] (omega arith) ∙ ap (table_entry_bytes shift) (pointer-at a k) in
        let c : new_table_at + table_header_length + a * table_entry_length ≡ new_table_at + table_header_length + table_entry_length * a = omega arith in
        subst (λ n. Holds y n (table_entry_bytes shift (new_ptr a))) c (subst (Holds y (new_table_at + table_header_length + a * table_entry_length)) e hj)

    item-fits : (a : ℕ) → a < (opened x o).count → item_or_zero (new_ptr a) < 2 ^ shift
    item-fits a k =
        let b : item_or_zero (get_or pointers a none) ≤ largest_item pointers = item-largest pointers a (omega (arith, length-pointers)) in
        rw (pointer-at a k) at (lt_of_le_of_lt b (shift-holds s x-short items-few))

    -- an address below the count: it is not written, or its sector is good; and what is then expected of it
    abbrev Reads : ℕ → Answer (List ℕ) → Type 0
    Reads a v =
        ((not_written y new_opened a ≡ true) × (v ≡ Err (refusal 21 0)))
        ⊎ (SectorOk y new_entries new_opened a × (v ≡ Ok (item_bytes y (pointer_at y new_opened a))))

    reads-inside : (a : ℕ) → a < (opened x o).count → Reads a (expected a)
    unfolding table_entry pointer_at entry_pointer table_entry_bytes item_or_zero
    reads-inside a k = go (new_ptr a) (expected a) (gets a k) (pointer-holds a k) (item-fits a k)
      where
        go : (u : Option Pointer) (v : Answer (List ℕ)) → Gets y new_entries u v → Holds y (new_table_at + table_header_length + table_entry_length * a) (table_entry_bytes shift u) → item_or_zero u < 2 ^ shift → Reads a v
        go _ _ nothing hl il = inl (entry_zero y new_table_at _ shift a (holds-number y _ 8 0 hl (lit< tt)), refl)
        go _ _ (stands {p = p} {sector = d} q) hl il =
            let n : table_entry y new_opened a ≡ encode shift p = holds-number y _ 8 (encode shift p) hl (encode-lt shift p (shift_small s x-short items-few) (pointer-small y p q.ok long).0 il) in
            let ep : pointer_at y new_opened a ≡ p = ap (decode shift 0) n ∙ decode-encode shift p il in
            let low : header_length ≤ p.block.0 = q.low in
            inr (
              record {
                written = entry_other y new_table_at _ shift a (λ z. encode-pos shift p (omega arith) (sym n ∙ z));
                known = first-known y new_opened a refl;
                named = rw ep q.named;
                item = rw ep q.ok;
              },
              ap Ok (sym q.bytes ∙ ap (item_bytes y) (sym ep)),
            )

    -- ---- the new disc is sound, and every address reads as handed in, or as before
    sound-new : Sound y new_index_at
    sound-new = record { opens = opens-new.ok; first = rw opens-new.found refl; sectors = rw (opens-new.named, opens-new.found) each }
      where
        each : (a : ℕ) → a < (opened x o).count → (not_written y new_opened a ≡ true) ⊎ SectorOk y new_entries new_opened a
        each a k = ⊎_elim (λ r. inl r.0) (λ r. inr r.0) (reads-inside a k)

    reads-new : (a : ℕ) → a < (opened x o).count → entry_read y new_index_at a ≡ expected a
    reads-new a k = go (reads-inside a k)
      where
        go : Reads a (expected a) → entry_read y new_index_at a ≡ expected a
        go (inl r) = entry-21 y new_index_at a (ap (λ (u : Opened). not_written y u a) opens-new.found ∙ r.0) ∙ sym r.1
        go (inr r) =
            entry-bytes y new_index_at a (rw (opens-new.named, opens-new.found) r.0)
            ∙ ap (λ (u : Opened). Ok (item_bytes y (pointer_at y u a))) opens-new.found ∙ sym r.1

    pub new-disc : NewDisc x o addresses ds y new_index_at new_entries
    new-disc =
        record {
          sound = sound-new;
          count = ap (λ (u : Opened). u.count) opens-new.found;
          reads = reads-new;
          index = opens-new.named;
        }
