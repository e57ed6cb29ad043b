-- Lists of bytes: their fields fit and are laid out as they stood, and what is written is bytes again.
use mathlib.Core.List.{List, [], ◌∷◌, flatten}
use mathlib.Core.Option.{Option, none, some}
use mathlib.Core.Path.{◌≡◌, sym, ap, ◌∙◌}
use Prim.Native.Nat.{ℕ, zero, suc, ◌+◌, ◌*◌, ◌/◌, ◌^◌, ◌≤◌, ◌<◌}
use native.Mathlib.Nat.{mod-lt, zero-lt-suc}
use native.Mathlib.Omega.{arith}
use lib.Dec.{T, ltb, lit<}
use lib.Ieee.Fits.{and_l, and_r}
use lib.ListN.{length, get_or}
use lib.Pow.{are_bytes}
use Rattle.fields.specs.Bytes.{part, from_le, to_le, field, overwrite}
use Rattle.fields.specs.Layout.{Field, num, raw, layout}
use Rattle.fields.proofs.Numbers.{field_lt, to_le-field}
use Rattle.fields.proofs.Overwrite.{overwrite-split, part-whole}
use Rattle.format.specs.declared.Entry.{Entry}
use Rattle.format.specs.declared.Pointer.{Pointer}
use Rattle.format.specs.Lists.{All, done, more, IsBytes}
use Rattle.format.specs.Layouts.{AARUFRMT, IDX2, DBLK, DDT*, tag, entry_length, table_entry_length, header_bytes, entry_at, entries_from, entry_bytes, index_header, index_bytes, block_header, block_bytes, table_header, table_bytes, encode}
use Rattle.format.specs.Opening.{opened}
use Rattle.format.specs.Creating.{created_entries, created_bytes}
use Rattle.format.specs.Committing.{pieces, table_entry_bytes, new_table, new_block, appended_for, stored_for, appended, appended_bytes}
use Rattle.format.proofs.Lists.{all_append, all-image, all_take, all_drop, all_replicate, all-flatten}
use Rattle.format.proofs.Written.{EntryFits}
use Rattle.format.proofs.Storing.{pieces-all, stored_ok}

-- ---- fields fit
bytes-get : {l : List ℕ} → IsBytes l → (i : ℕ) → get_or l i 0 < 256
bytes-get done i = lit< tt
bytes-get (more h hs) zero = h
bytes-get (more h hs) (suc i) = bytes-get hs i

pub field_fits : {x : List ℕ} → IsBytes x → (at k : ℕ) → field x at k < 256 ^ k
field_fits {x} h at k = field_lt x at k (bytes-get h)

-- and have their bytes
pub field-bytes : {x : List ℕ} → IsBytes x → (at k : ℕ) → at + k ≤ length x → to_le k (field x at k) ≡ part x at k
field-bytes {x} h at k l = to_le-field x at k (bytes-get h) l

pub entries_fit : (x : List ℕ) → IsBytes x → (k p : ℕ) → All EntryFits (entries_from x k p)
unfolding entries_from entry_at
entries_fit x h zero p = done
entries_fit x h (suc k) p =
    more
    (record { blockType = field_fits h p 4; dataType = field_fits h (p + 4) 4; offset = field_fits h (p + 8) 8 })
    (entries_fit x h k (p + entry_length))

-- ---- what is written over bytes
pub bytes-overwrite : (l : List ℕ) (at : ℕ) (new : List ℕ) → at + length new ≤ length l → IsBytes l → IsBytes new → IsBytes (overwrite l at new)
bytes-overwrite l at new room h k = rw (overwrite-split l at new room) (all_append (all_append (all_take l h at) k) (all_drop l h (at + length new)))

pub bytes-to_le : (k v : ℕ) → IsBytes (to_le k v)
unfolding to_le
bytes-to_le zero v = done
bytes-to_le (suc k) v = more (mod-lt v (zero-lt-suc 255)) (bytes-to_le k (v / 256))

-- ---- literals
is-bytes : (l : List ℕ) → T (are_bytes l) → IsBytes l
is-bytes [] h = done
is-bytes (b ∷ bs) h = more (lit< (and_l (ltb b 256) (are_bytes bs) h)) (is-bytes bs (and_r (ltb b 256) (are_bytes bs) h))

-- letters come back from the number that they make
pub tag-bytes : (letters : List ℕ) → T (are_bytes letters) → to_le (length letters) (tag letters) ≡ letters
unfolding tag field
tag-bytes letters h =
    ap (λ (l : List ℕ). to_le (length letters) (from_le l)) (sym (part-whole letters)) ∙ field-bytes (is-bytes letters h) 0 (length letters) (omega arith) ∙ part-whole letters

-- ---- records: their numbers are bytes by themselves
abbrev RawBytes : List Field → Type 0
RawBytes [] = Unit {0}
RawBytes (num k v ∷ fs) = RawBytes fs
RawBytes (raw bytes ∷ fs) = IsBytes bytes × RawBytes fs

bytes-layout : (fs : List Field) → RawBytes fs → IsBytes (layout fs)
unfolding layout
bytes-layout [] h = done
bytes-layout (num k v ∷ fs) h = all_append (bytes-to_le k v) (bytes-layout fs h)
bytes-layout (raw bytes ∷ fs) h = all_append h.0 (bytes-layout fs h.1)

module _ (payload : List ℕ) (h : IsBytes payload) where
  bytes-table : (shift count : ℕ) → IsBytes (table_bytes shift count payload)
  unfolding table_bytes table_header
  bytes-table shift count = all_append (bytes-layout _ (is-bytes DDT* tt, tt)) h

  bytes-block : (size : ℕ) → IsBytes (block_bytes size payload)
  unfolding block_bytes block_header
  bytes-block size = all_append (bytes-layout _ (is-bytes DBLK tt, tt)) h

bytes-entry : (e : Entry) → IsBytes (entry_bytes e)
unfolding entry_bytes
bytes-entry e = bytes-layout _ tt

bytes-index : (es : List Entry) → IsBytes (index_bytes es)
unfolding index_bytes index_header
bytes-index es = all_append (bytes-layout _ (is-bytes IDX2 tt, tt)) (all-flatten (all-image entry_bytes bytes-entry es))

-- ---- a new image
pub bytes-created : (count : ℕ) (application : List ℕ) → IsBytes application → (major minor mediaType creationTime lastWrittenTime : ℕ)
    → IsBytes (created_bytes count application major minor mediaType creationTime lastWrittenTime)
unfolding created_bytes header_bytes
bytes-created count application h major minor mediaType creationTime lastWrittenTime =
    all_append (bytes-layout _ (is-bytes AARUFRMT tt, (h, tt)))
    (all_append (bytes-table _ (all_replicate (table_entry_length * count) 0 (lit< tt)) 0 count) (bytes-index created_entries))

-- ---- what a commit appends
bytes-pointer : (shift : ℕ) (u : Option Pointer) → IsBytes (table_entry_bytes shift u)
unfolding table_entry_bytes
bytes-pointer shift none = bytes-to_le 8 0
bytes-pointer shift (some p) = bytes-to_le 8 (encode shift p)

bytes-new_block : (size : ℕ) (items : List (List ℕ)) → All IsBytes items → IsBytes (new_block size items)
unfolding new_block
bytes-new_block size [] h = done
bytes-new_block size (i ∷ is) h = bytes-block (flatten (i ∷ is)) (all-flatten h) size

bytes-new_table : (ps : List (Option Pointer)) → IsBytes (new_table ps)
unfolding new_table
bytes-new_table ps = bytes-table _ (all-flatten (all-image _ (bytes-pointer _) ps)) _ _

pub bytes-appended : (img : List ℕ) (o : ℕ) (addresses : List ℕ) (size : ℕ) (sectors : List ℕ) → IsBytes sectors
    → IsBytes (appended_bytes (appended img o addresses size sectors))
unfolding appended_bytes appended appended_for stored_for
bytes-appended img o addresses size sectors h =
    let items = (stored_ok img (opened img o) (length img) IsBytes (pieces (length addresses) size sectors) []).keeps done (pieces-all (length addresses) size sectors h) in
    all_append (bytes-new_block size _ items) (all_append (bytes-new_table _) (bytes-index _))
