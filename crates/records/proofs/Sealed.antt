-- A header before its payload: the fields written one after the other are the header, and the header with the payload is the record.
use mathlib.Core.List.{List, [], ◌∷◌, ◌++◌, append_assoc, flatten}
use mathlib.Core.Logic.{◌≢◌}
use mathlib.Core.Path.{◌≡◌, sym, ap, ◌∙◌}
use Prim.Native.Nat.{ℕ, suc, ◌+◌, ◌-◌, ◌*◌, ◌≤◌}
use native.Mathlib.Omega.{arith}
use lib.ListN.{length, length-append}
use Rattle.crc64.specs.Crc.{crc_of}
use Rattle.fields.specs.Bytes.{part, overwrite}
use Rattle.fields.specs.Layout.{num, raw}
use Rattle.fields.proofs.Overwrite.{length_part, length-overwrite, part_same, overwrite-nil, overwrite-then, overwrite-comm, overwrite-before}
use Rattle.fields.proofs.Records.{Laid}
use Rattle.format.specs.Lists.{All}
use Rattle.format.specs.Layouts.{IDX2, DBLK, DDT*, index_header_length, index_header, block_header_length, block_header, block_bytes, table_header_length, table_header, table_entry_length, table_bytes}
use Rattle.format.specs.Writing.{set_header}
use Rattle.format.specs.Committing.{new_block, table_start, index_start, Appended, appended_bytes}
use Rattle.format.proofs.Lists.{Sized, length-flatten}
use Rattle.format.proofs.Written.{length-block_header, length-table_header}
use Rattle.records.specs.Blocks.{header_for}

-- ---- the header's length and checksum are the payload's
module _ {s after : List ℕ} {at : ℕ} (n sum : ℕ) where
  pub block-header : (size : ℕ) → at + block_header_length + n ≤ length s → sum ≡ crc_of (part s (at + block_header_length) n)
      → Laid s at (raw DBLK ∷ num 2 1 ∷ num 2 0 ∷ num 4 size ∷ num 4 n ∷ num 4 n ∷ num 8 sum ∷ num 8 sum ∷ []) after
      → after ≡ overwrite s at (block_header size (part s (at + block_header_length) n))
  unfolding block_header
  block-header size h e l = rw (length_part s (at + block_header_length) n h, ← e) l.is

  pub table-header : (shift count : ℕ) → at + table_header_length + n ≤ length s → sum ≡ crc_of (part s (at + table_header_length) n)
      → Laid s at (raw DDT* ∷ num 2 1 ∷ num 2 0 ∷ num 1 shift ∷ num 8 count ∷ num 8 n ∷ num 8 n ∷ num 8 sum ∷ num 8 sum ∷ []) after
      → after ≡ overwrite s at (table_header shift count (part s (at + table_header_length) n))
  unfolding table_header
  table-header shift count h e l = rw (length_part s (at + table_header_length) n h, ← e) l.is

  pub index-header : (count : ℕ) → sum ≡ crc_of (part s (at + index_header_length) n) → Laid s at (raw IDX2 ∷ num 8 count ∷ num 8 sum ∷ []) after
      → after ≡ overwrite s at (index_header count (part s (at + index_header_length) n))
  unfolding index_header
  index-header count e l = rw (← e) l.is

-- ---- a payload, then its header of k bytes before it
pub sealed : (header : List ℕ → List ℕ) (k : ℕ) → ((l : List ℕ) → length (header l) ≡ k) → (s : List ℕ) (at n : ℕ) (payload between after : List ℕ)
    → length payload ≡ n → at + k + n ≤ length s → between ≡ overwrite s (at + k) payload → after ≡ overwrite between at (header (part between (at + k) n))
    → after ≡ overwrite s at (header payload ++ payload)
sealed header k long s at n payload between after l h b a =
    a ∙ ap (λ (t : List ℕ). overwrite t at (header (part t (at + k) n))) b
    ∙ ap (λ (t : List ℕ). overwrite (overwrite s (at + k) payload) at (header t)) (part_same s (at + k) n payload l h)
    ∙ overwrite-before s at (header payload) (at + k) payload (ap (λ (m : ℕ). at + m) (sym (long payload)))

-- ---- the block's header, by how many sectors are stored
module _ (n size : ℕ) (payload : List ℕ) where
  pub header-none : n ≡ 0 → header_for n size payload ≡ []
  unfolding header_for
  header-none e = rw e

  pub header-some : n ≢ 0 → header_for n size payload ≡ block_header size payload
  unfolding header_for
  header-some h = let e : n ≡ suc (n - 1) = omega arith in rw e

-- ---- the block and the table behind it
-- the block; where nothing is stored there is none
block-sealed : (s : List ℕ) (used size : ℕ) (items : List (List ℕ)) {b₁ b₂ : List ℕ} → All (Sized size) items
    → used + block_header_length + length items * size ≤ length s → b₁ ≡ overwrite s (used + block_header_length) (flatten items)
    → b₂ ≡ overwrite b₁ used (header_for (length items) size (part b₁ (used + block_header_length) (length items * size)))
    → b₂ ≡ overwrite s used (new_block size items)
unfolding header_for new_block block_bytes flatten
block-sealed s used size [] sized fits e₁ e₂ = e₂ ∙ overwrite-nil _ used ∙ e₁ ∙ overwrite-nil s _ ∙ sym (overwrite-nil s used)
block-sealed s used size (i ∷ is) {b₁} {b₂} sized fits e₁ e₂ =
    sealed (block_header size) block_header_length (length-block_header size) s used (length (i ∷ is) * size) (flatten (i ∷ is)) b₁ b₂
    (length-flatten size (i ∷ is) sized) fits e₁ e₂

-- both: the items and the entries were written to buf, the block's header is put before the items, then the table's before the entries
pub data-sealed : (buf : List ℕ) (used size table shift count : ℕ) (items : List (List ℕ)) (entries : List ℕ) {b₁ b₂ b₃ : List ℕ}
    → All (Sized size) items → length entries ≡ table_entry_length * count → table ≡ used + length (new_block size items)
    → used + block_header_length + length items * size ≤ table + table_header_length → table + table_header_length + table_entry_length * count ≤ length buf
    → b₁ ≡ overwrite (overwrite buf (used + block_header_length) (flatten items)) (table + table_header_length) entries
    → b₂ ≡ overwrite b₁ used (header_for (length items) size (part b₁ (used + block_header_length) (length items * size)))
    → b₃ ≡ overwrite b₂ table (table_header shift count (part b₂ (table + table_header_length) (table_entry_length * count)))
    → b₃ ≡ overwrite buf used (new_block size items ++ table_bytes shift count entries)
unfolding table_bytes
data-sealed buf used size table shift count items entries {b₁} {b₂} {b₃} sized le lt room fits e₁ e₂ e₃ =
    let start : ℕ = table + table_header_length in
    let lf : length (flatten items) ≡ length items * size = length-flatten size items sized in
    let l₁ : length (overwrite buf start entries) ≡ length buf = length-overwrite buf start entries in
    let f₁ : b₁ ≡ overwrite (overwrite buf start entries) (used + block_header_length) (flatten items) =
    e₁ ∙ sym (overwrite-comm buf start entries (used + block_header_length) (flatten items) (omega arith)) in
    let new : List ℕ = overwrite buf used (new_block size items) in
    let ln : length new ≡ length buf = length-overwrite buf used (new_block size items) in
    let f₂ : b₂ ≡ overwrite new start entries =
    block-sealed (overwrite buf start entries) used size items sized (omega arith) f₁ e₂ ∙ overwrite-comm buf start entries used (new_block size items) (omega arith) in
    sealed (table_header shift count) table_header_length (length-table_header shift count) new table (table_entry_length * count) entries b₂ b₃ le (omega arith) f₂ e₃
    ∙ ap (λ n. overwrite new n (table_header shift count entries ++ entries)) lt ∙ overwrite-then buf used (new_block size items) _

-- and the index behind them, then the header's two fields
pub all-sealed : (buf : List ℕ) (used : ℕ) (new : Appended) (time : ℕ) {b₁ b₂ b₃ : List ℕ} → b₁ ≡ overwrite buf used (new.block ++ new.table)
    → b₂ ≡ overwrite b₁ (index_start used new) new.index → b₃ ≡ set_header b₂ (index_start used new) time
    → b₃ ≡ set_header (overwrite buf used (appended_bytes new)) (index_start used new) time
unfolding appended_bytes index_start table_start
all-sealed buf used new time e₁ e₂ e₃ =
    let behind : used + length new.block + length new.table ≡ used + length (new.block ++ new.table) = rw length-append (omega arith) in
    e₃
    ∙ ap (λ l. set_header l (used + length new.block + length new.table) time)
    (e₂ ∙ (λ j. overwrite (e₁ j) (behind j) new.index) ∙ overwrite-then buf used (new.block ++ new.table) new.index
    ∙ ap (overwrite buf used) (append_assoc new.block new.table new.index))
