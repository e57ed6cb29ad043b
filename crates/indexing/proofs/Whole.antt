-- The entries of a new index and its header, written one after the other, are the index.
use mathlib.Core.List.{List, [], ◌∷◌, ◌++◌, append_assoc, append-nil, flatten}
use mathlib.Core.Logic.{◌≢◌}
use mathlib.Core.Path.{◌≡◌, refl, sym, ap, ◌∙◌}
use Prim.Native.Nat.{ℕ, ◌+◌, ◌*◌, ◌≤◌}
use native.Mathlib.Omega.{arith}
use lib.ListN.{length, take, length-append, length-take}
use Rattle.fields.specs.Bytes.{part, overwrite}
use Rattle.fields.proofs.Overwrite.{overwrite-then, overwrite-nil}
use Rattle.format.specs.declared.Entry.{Entry}
use Rattle.format.specs.Layouts.{DBLK, index_header_length, entry_length, entry_bytes, user_data_entry, entries, index_header, index_bytes}
use Rattle.format.specs.Committing.{kept_entries}
use Rattle.format.proofs.Written.{length-entries_bytes, length-index_header}
use Rattle.format.proofs.Ends.{entry-some}
use Rattle.records.proofs.Sealed.{sealed}
use Rattle.format.specs.Facts.{block_entry}
use Rattle.indexing.specs.Entries.{new_entries, entries_bytes, Indexes}

entries_bytes-append : (a b : List Entry) → entries_bytes (a ++ b) ≡ entries_bytes a ++ entries_bytes b
unfolding entries_bytes flatten
entries_bytes-append [] b = refl
entries_bytes-append (e ∷ a) b = ap (λ (l : List ℕ). entry_bytes e ++ l) (entries_bytes-append a b) ∙ sym (append_assoc (entry_bytes e) (entries_bytes a) (entries_bytes b))

-- ---- the new block's entry
pub one-room : (at block stored n : ℕ) → stored ≢ 0 → at + entry_length * length (block_entry block stored) ≤ n → at + entry_length ≤ n
one-room at block stored n h r = omega (arith, ap length (entry-some block stored h))

pub wrote_none : (s : List ℕ) (at block stored : ℕ) → stored ≡ 0
    → (0 ≡ length (block_entry block stored)) × (s ≡ overwrite s at (entries_bytes (block_entry block stored)))
unfolding block_entry entries_bytes flatten
wrote_none s at block stored h = rw h (refl, sym (overwrite-nil s at))

pub wrote_one : (s : List ℕ) (at block stored : ℕ) (after : List ℕ) → stored ≢ 0 → after ≡ overwrite s at (entry_bytes (user_data_entry DBLK block))
    → (1 ≡ length (block_entry block stored)) × (after ≡ overwrite s at (entries_bytes (block_entry block stored)))
unfolding entries_bytes flatten
wrote_one s at block stored after h e = rw (entry-some block stored h) (refl, e ∙ ap (overwrite s at) (sym (append-nil (entry_bytes (user_data_entry DBLK block)))))

-- ---- the whole index
-- kept entries, then the new block's, then the header
indexed : (s : List ℕ) (at : ℕ) (a b : List Entry) (s1 s2 s3 : List ℕ) (kept more : ℕ) → kept ≡ length a → more ≡ length b
    → at + index_header_length + entry_length * length (a ++ b) ≤ length s
    → s1 ≡ overwrite s (at + index_header_length) (entries_bytes a)
    → s2 ≡ overwrite s1 (at + index_header_length + entry_length * kept) (entries_bytes b)
    → s3 ≡ overwrite s2 at (index_header (kept + more) (part s2 (at + index_header_length) (entry_length * (kept + more))))
    → s3 ≡ overwrite s at (index_bytes (a ++ b))
unfolding index_bytes entries_bytes
indexed s at a b s1 s2 s3 kept more ka mb h e1 e2 e3 =
    let start : ℕ = at + index_header_length in
    let n : kept + more ≡ length (a ++ b) = omega (arith, length-append a b) in
    let m : start + entry_length * kept ≡ start + length (entries_bytes a) = omega (arith, length-entries_bytes a) in
    let both : s2 ≡ overwrite s start (entries_bytes (a ++ b)) =
    e2 ∙ ap (λ (p : ℕ). overwrite s1 p (entries_bytes b)) m ∙ ap (λ (l : List ℕ). overwrite l (start + length (entries_bytes a)) (entries_bytes b)) e1
    ∙ overwrite-then s start (entries_bytes a) (entries_bytes b) ∙ ap (overwrite s start) (sym (entries_bytes-append a b)) in
    sealed (index_header (length (a ++ b))) index_header_length (length-index_header (length (a ++ b))) s at (entry_length * length (a ++ b)) (entries_bytes (a ++ b)) s2 s3
    (length-entries_bytes (a ++ b)) h both (e3 ∙ ap (λ (k : ℕ). overwrite s2 at (index_header k (part s2 start (entry_length * k)))) n)

module _ {buf : List ℕ} {used o at table kept stored : ℕ} (i : Indexes buf used o at table kept stored) where
  image-length : length (take used buf) ≡ used
  image-length = simp length-take (omega (arith, i.image))

  block : block_entry (length (take used buf)) stored ≡ block_entry used stored
  block = ap (λ (n : ℕ). block_entry n stored) image-length

  -- there is room for the entries
  pub room-is : at + index_header_length + entry_length * (kept + length (block_entry used stored)) ≤ length buf
  unfolding new_entries
  room-is = rw (← block) (omega (arith, i.room, length-append (kept_entries table (entries (take used buf) o)) (block_entry (length (take used buf)) stored), i.counted))

  pub index-written : {s1 s2 s3 : List ℕ} {more : ℕ} → s1 ≡ overwrite buf (at + index_header_length) (entries_bytes (kept_entries table (entries (take used buf) o)))
      → (more ≡ length (block_entry used stored)) × (s2 ≡ overwrite s1 (at + index_header_length + entry_length * kept) (entries_bytes (block_entry used stored)))
      → s3 ≡ overwrite s2 at (index_header (kept + more) (part s2 (at + index_header_length) (entry_length * (kept + more))))
      → s3 ≡ overwrite buf at (index_bytes (new_entries (take used buf) o table stored))
  unfolding new_entries
  index-written {s1} {s2} {s3} {more} e1 e2 e3 =
      rw block
      (indexed buf at (kept_entries table (entries (take used buf) o)) (block_entry used stored) s1 s2 s3 kept more i.counted e2.0 (rw block at i.room) e1 e2.1 e3)
