-- The records of a new image, written one after the other, are the image.
use mathlib.Core.List.{List, [], ◌∷◌, ◌++◌, append-nil, flatten}
use mathlib.Core.Path.{◌≡◌, sym, ap, ◌∙◌}
use Prim.Native.Nat.{ℕ, ◌+◌, ◌*◌, ◌≤◌}
use native.Mathlib.Omega.{arith}
use lib.ListN.{length, replicate, length-replicate}
use Rattle.fields.specs.Bytes.{part, overwrite}
use Rattle.fields.proofs.Overwrite.{length-overwrite, overwrite-then}
use Rattle.format.specs.declared.Entry.{Entry}
use Rattle.format.specs.Layouts.{DDT*, application_length, header_length, header_bytes, entry_length, entry_bytes, user_data_entry, index_header_length, index_header, index_bytes, table_header_length, table_header, table_entry_length, table_bytes}
use Rattle.format.specs.Creating.{created_index_at, created_used, created_entries, created_bytes}
use Rattle.format.proofs.Written.{length-header_bytes, length-entry_bytes, length-table_header, length-table_bytes, length-index_header}
use Rattle.records.proofs.Sealed.{sealed}

-- ---- a table of zeros, an index of one entry
table-of-zeros : (s : List ℕ) (at count : ℕ) (between after : List ℕ) → at + table_header_length + table_entry_length * count ≤ length s
    → between ≡ overwrite s (at + table_header_length) (replicate (table_entry_length * count) 0)
    → after ≡ overwrite between at (table_header 0 count (part between (at + table_header_length) (table_entry_length * count)))
    → after ≡ overwrite s at (table_bytes 0 count (replicate (table_entry_length * count) 0))
unfolding table_bytes
table-of-zeros s at count between after h b a =
    sealed (table_header 0 count) table_header_length (length-table_header 0 count) s at (table_entry_length * count) _ between after (length-replicate {A = ℕ} (table_entry_length * count) 0) h b a

index-of-one : (s : List ℕ) (at : ℕ) (e : Entry) (between after : List ℕ) → at + index_header_length + entry_length ≤ length s
    → between ≡ overwrite s (at + index_header_length) (entry_bytes e)
    → after ≡ overwrite between at (index_header 1 (part between (at + index_header_length) (entry_length * 1)))
    → after ≡ overwrite s at (index_bytes (e ∷ []))
unfolding index_bytes flatten
index-of-one s at e between after h b a =
    let l : length (entry_bytes e ++ []) ≡ entry_length = rw append-nil (length-entry_bytes e) in
    sealed (index_header 1) index_header_length (length-index_header 1) s at entry_length _ between after l h (b ∙ ap (overwrite s (at + index_header_length)) (sym (append-nil (entry_bytes e)))) a

-- ---- all of it
pub created-image : (s : List ℕ) (count : ℕ) (application : List ℕ) (major minor mediaType created written : ℕ) (s1 s2 s3 s4 s5 : List ℕ)
    → (created_used count ≤ length s) × (length application ≡ application_length)
    → s1 ≡ overwrite s 0 (header_bytes application major minor mediaType (created_index_at count) created written)
    → s2 ≡ overwrite s1 (header_length + table_header_length) (replicate (table_entry_length * count) 0)
    → s3 ≡ overwrite s2 header_length (table_header 0 count (part s2 (header_length + table_header_length) (table_entry_length * count)))
    → s4 ≡ overwrite s3 (created_index_at count + index_header_length) (entry_bytes (user_data_entry DDT* header_length))
    → s5 ≡ overwrite s4 (created_index_at count) (index_header 1 (part s4 (created_index_at count + index_header_length) (entry_length * 1)))
    → s5 ≡ overwrite s 0 (created_bytes count application major minor mediaType created written)
unfolding created_used created_index_at created_bytes
created-image s count application major minor mediaType created written s1 s2 s3 s4 s5 h e1 e2 e3 e4 e5 =
    let header : List ℕ = header_bytes application major minor mediaType (created_index_at count) created written in
    let table : List ℕ = table_bytes 0 count (replicate (table_entry_length * count) 0) in
    let index : List ℕ = index_bytes created_entries in
    let lh : length header ≡ header_length = length-header_bytes application major minor mediaType (created_index_at count) created written h.1 in
    let lt : length table ≡ table_header_length + table_entry_length * count = length-table_bytes 0 count (replicate (table_entry_length * count) 0) ∙ ap (λ (n : ℕ). table_header_length + n) (length-replicate {A = ℕ} (table_entry_length * count) 0) in
    let l1 : length s1 ≡ length s = ap length e1 ∙ length-overwrite s 0 header in
    let t : s3 ≡ overwrite s1 header_length table = table-of-zeros s1 header_length count s2 s3 (omega arith) e2 e3 in
    let l3 : length s3 ≡ length s = ap length t ∙ length-overwrite s1 header_length table ∙ l1 in
    let i : s5 ≡ overwrite s3 (created_index_at count) index = index-of-one s3 (created_index_at count) _ s4 s5 (omega arith) e4 e5 in
    let q : header_length ≡ 0 + length header = omega arith in
    let p : created_index_at count ≡ header_length + length table = omega arith in
    i
    ∙ ap (λ (n : ℕ). overwrite s3 n index) p ∙ ap (λ (l : List ℕ). overwrite l (header_length + length table) index) t ∙ overwrite-then s1 header_length table index
    ∙ ap (λ (l : List ℕ). overwrite l header_length (table ++ index)) e1 ∙ ap (λ (n : ℕ). overwrite (overwrite s 0 header) n (table ++ index)) q
    ∙ overwrite-then s 0 header (table ++ index)
