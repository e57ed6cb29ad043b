-- Where what a commit appends ends: how long its parts are, by the sectors that it stores and the index entries that it keeps.
use mathlib.Core.Bool.{not}
use mathlib.Core.List.{List, [], ◌∷◌, ◌++◌, flatten}
use mathlib.Core.Logic.{◌≢◌, ◌⊎◌, ⊎_elim, inl, inr}
use mathlib.Core.Option.{Option, none, some}
use mathlib.Core.Path.{◌≡◌, refl, sym, ap, ◌∙◌, subst}
use Prim.Native.Nat.{ℕ, suc, ◌+◌, ◌-◌, ◌*◌}
use native.Mathlib.Omega.{arith}
use lib.ListN.{length}
use lib.IntN.{ℤ, pos, neg_ℤ, ◌+ℤ◌}
use Rattle.std.specs.Prelude.{Ok}
use Rattle.fields.specs.Bytes.{equal}
use Rattle.fields.proofs.Equal.{equal-refl}
use Rattle.format.specs.declared.Entry.{Entry}
use Rattle.format.specs.declared.Placed.{Placed}
use Rattle.format.specs.declared.Pointer.{Pointer}
use Rattle.format.specs.declared.TableKind.TheVariants.{First}
use Rattle.format.specs.Lists.{All}
use Rattle.format.specs.Layouts.{DBLK, index_offset, entries, user_data_entry, block_header_length, table_header_length, table_entry_length, table_count}
use Rattle.format.specs.Opening.{Opened, opened_as, opened}
use Rattle.format.specs.Reading.{entry_number, pointer_of, read_at, read}
use Rattle.format.specs.Writing.{placed}
use Rattle.format.specs.Committing.{entry_numbers, holds_sector, on_disc, among_stored, step_for, store_one, store_all, pieces, stored_for, pointers_for, new_table, new_block, new_block_entry, kept_entries, Appended, table_start, index_start, used_after, appended_for, appended}
use Rattle.format.specs.Facts.{Opens, Stores, all, again, new, Reindexed, block_length_for, block_entry}
use Rattle.format.specs.Demands.{Held, Additions, new_entries}
use Rattle.format.proofs.Tests.{never, off_rest, and-true}
use Rattle.format.proofs.Lists.{Sized, length-flatten}
use Rattle.format.proofs.Refusals.{answer-accepted}
use Rattle.format.proofs.Numbers.{Numbered, inside-number, address-displaced}
use Rattle.format.proofs.Checks.{Sound, SectorOk, read_ok, read-numbered, entry-bytes}
use Rattle.format.proofs.Opens.{opened-as}
use Rattle.format.proofs.Addresses.{length-numbers}
use Rattle.format.proofs.KeptEntries.{reindexed-forth, reindexed-back}
use Rattle.format.proofs.Written.{length-table_bytes, length-block_bytes, length-index_bytes}
use Rattle.format.proofs.Storing.{first_with-none, on_disc-found, Among, among-some, among_none, stored-sized, length-new_pointers, length-entries}

-- ---- the sectors that are stored
module _ (img : List ℕ) (s : Sound img (index_offset img)) where
  abbrev t : Opened
  t = opened img (index_offset img)

  abbrev Known : List (List ℕ) → List ℕ → Type 0
  Known stored d = Held img d ⊎ Among stored d

  -- the search of the disc finds a sector exactly if some address reads as it
  pub disc-some : (d : List ℕ) (n : ℕ) → on_disc img t d ≡ some n → Held img d
  unfolding read
  disc-some d n e =
      let f = on_disc-found img t d n e in
      let a : ℤ = neg_ℤ (pos t.negative) +ℤ pos n in
      let m : Numbered t a n = record { is = address-displaced t a (pos n) refl; inside = f.inside } in
      let good : SectorOk img (entries img (index_offset img)) t n = off_rest f.written (s.sectors n f.inside) in
      record {
        address = a;
        reads =
            read-numbered img (index_offset img) s.opens a n m ∙ entry-bytes img (index_offset img) n good ∙ ap Ok f.bytes;
      }

  disc-none : (d : List ℕ) → on_disc img t d ≡ none → ¬ Held img d
  unfolding read read_at on_disc holds_sector pointer_of
  disc-none d e h =
      let r = answer-accepted _ _ d h.reads in
      let v = (read_ok img (index_offset img) h.address).0 r.0 in
      let m = inside-number t h.address v.inside in
      never (and-true _ _ (ap not v.sector.written) (ap (λ (x : List ℕ). equal x d) r.1 ∙ equal-refl d))
      (first_with-none (holds_sector img t d) t.count 0 (entry_number t h.address) e (omega arith) (omega (arith, m.inside)))

  module _ (block : ℕ) where
    -- one sector
    step : (stored : List (List ℕ)) (d : List ℕ)
        → (Known stored d × ((store_one img t block stored d).stored ≡ stored)) ⊎ ((¬ Known stored d) × ((store_one img t block stored d).stored ≡ stored ++ (d ∷ [])))
    unfolding store_one step_for
    step stored d = go (on_disc img t d) refl (among_stored stored d) refl
      where
        go : (u : Option ℕ) → on_disc img t d ≡ u → (v : Option ℕ) → among_stored stored d ≡ v
            → (Known stored d × ((step_for img t block stored d u v).stored ≡ stored)) ⊎ ((¬ Known stored d) × ((step_for img t block stored d u v).stored ≡ stored ++ (d ∷ [])))
        go (some a) e v f = inl (inl (disc-some d a e), refl)
        go none e (some j) f = inl (inr (among-some stored d j f), refl)
        go none e none f = inr (⊎_elim (disc-none d e) (among_none stored d f), refl)

    -- all of them
    stores-forth : (ds stored : List (List ℕ)) → Stores (Held img) stored ds (store_all img t block stored ds).items
    unfolding store_all
    stores-forth [] stored = all
    stores-forth (d ∷ ds) stored =
        let ih = stores-forth ds in
        ⊎_elim (λ (k, e). again k (rw e (ih stored))) (λ (k, e). new k (rw e (ih (stored ++ (d ∷ []))))) (step stored d)

    stores_back : (stored ds last : List (List ℕ)) → Stores (Held img) stored ds last → (store_all img t block stored ds).items ≡ last
    unfolding store_all
    stores_back stored _ _ all = refl
    stores_back stored _ last (again {ds = ds} {d = d} k r) =
        let ih = stores_back stored ds last r in
        ⊎_elim (λ (h, e). ap (λ (l : List (List ℕ)). (store_all img t block l ds).items) e ∙ ih) (λ (h, e). absurd (h k)) (step stored d)
    stores_back stored _ last (new {ds = ds} {d = d} k r) =
        let ih = stores_back (stored ++ (d ∷ [])) ds last r in
        ⊎_elim (λ (h, e). absurd (k h)) (λ (h, e). ap (λ (l : List (List ℕ)). (store_all img t block l ds).items) e ∙ ih) (step stored d)

-- ---- lengths
pub length-new_block : (size : ℕ) (items : List (List ℕ)) → All (Sized size) items → length (new_block size items) ≡ block_length_for (length items) size
unfolding new_block block_length_for
length-new_block size [] s = refl
length-new_block size (i ∷ is) s = length-block_bytes size (flatten (i ∷ is)) ∙ ap (λ n. block_header_length + n) (length-flatten size (i ∷ is) s)

pub length-new_table : (ps : List (Option Pointer)) → length (new_table ps) ≡ table_header_length + table_entry_length * length ps
unfolding new_table
length-new_table ps = length-table_bytes _ (length ps) _ ∙ ap (λ n. table_header_length + n) (length-entries _ ps)

pub block-entry : (b : ℕ) (items : List (List ℕ)) → new_block_entry b items ≡ block_entry b (length items)
unfolding new_block_entry block_entry
block-entry b [] = refl
block-entry b (i ∷ is) = refl

-- by how many sectors are stored
module _ (n size : ℕ) where
  pub length_none : n ≡ 0 → block_length_for n size ≡ 0
  unfolding block_length_for
  length_none e = rw e

  pub length_some : n ≢ 0 → block_length_for n size ≡ block_header_length + n * size
  unfolding block_length_for
  length_some h = let e : n ≡ suc (n - 1) = omega arith in rw e

module _ (place n : ℕ) where
  pub entry-none : n ≡ 0 → block_entry place n ≡ []
  unfolding block_entry
  entry-none e = rw e

  pub entry-some : n ≢ 0 → block_entry place n ≡ user_data_entry DBLK place ∷ []
  unfolding block_entry
  entry-some h = let e : n ≡ suc (n - 1) = omega arith in rw e

-- ---- a commit's
module _ (img : List ℕ) (s : Sound img (index_offset img)) (used : ℕ) (long : length img ≡ used) (addresses : List ℤ) (size : ℕ) (sectors : List ℕ)
    (whole : length sectors ≡ length addresses * size) where
  abbrev o : ℕ
  o = index_offset img

  abbrev numbers : List ℕ
  numbers = entry_numbers (opened img o) addresses

  abbrev items : List (List ℕ)
  items = (stored_for img o numbers size sectors).items

  abbrev new_table_at : ℕ
  new_table_at = table_start (length img) (new_block size items)

  abbrev old_kept : List Entry
  old_kept = kept_entries new_table_at (entries img o)

  many : length numbers ≡ length addresses
  many = length-numbers (opened img o) addresses

  block-length : length (new_block size items) ≡ block_length_for (length items) size
  unfolding stored_for
  block-length = length-new_block size items (stored-sized img (opened img o) (length img) (length numbers) size sectors (rw many whole))

  table_is : new_table_at ≡ used + block_length_for (length items) size
  unfolding table_start
  table_is = rw (long, block-length)

  pub additions : Additions img used size (pieces (length addresses) size sectors)
  unfolding stored_for
  additions =
      record {
        stored = items;
        stores = rw (← many) (stores-forth img s (length img) (pieces (length numbers) size sectors) []);
        kept = old_kept;
        keeps = subst (λ n. Reindexed n (entries img o) old_kept) table_is (reindexed-forth new_table_at (entries img o));
      }

  pub entries-are : old_kept ++ new_block_entry (length img) items ≡ new_entries additions
  unfolding additions
  entries-are = ap (λ (l : List Entry). old_kept ++ l) (block-entry (length img) items ∙ ap (λ (b : ℕ). block_entry b (length items)) long)

  -- and nothing else is
  module _ (a : Additions img used size (pieces (length addresses) size sectors)) where
    stored_is : items ≡ a.stored
    unfolding stored_for
    stored_is = stores_back img s (length img) [] (pieces (length numbers) size sectors) a.stored (rw many a.stores)

    kept-is : old_kept ≡ a.kept
    kept-is = rw (table_is, stored_is) (reindexed-back _ (entries img o) a.kept a.keeps)

  -- ---- where it ends
  module _ (table : ℕ) (opens : Opens img o First table) where
    abbrev added : Appended
    added = appended img o numbers size sectors

    count-is : (opened img o).count ≡ table_count img First table
    unfolding opened_as
    count-is = ap (λ (u : Opened). u.count) (opened-as img o First table opens)

    pub index_is : index_start used added ≡ used + block_length_for (length additions.stored) size + (49 + 8 * table_count img First table)
    unfolding index_start table_start appended appended_for pointers_for additions
    index_is =
        let c = length-new_table (pointers_for img o numbers (stored_for img o numbers size sectors).pointers) in
        let d = length-new_pointers img (opened img o) numbers (stored_for img o numbers size sectors).pointers (opened img o).count 0 in
        omega (arith, count-is, block-length)

    pub end_is : used_after used added ≡ index_start used added + (20 + 16 * length (new_entries additions))
    unfolding used_after appended appended_for
    end_is =
        let a = length-index_bytes (old_kept ++ new_block_entry (length img) items) in
        let b : length (old_kept ++ new_block_entry (length img) items) ≡ length (new_entries additions) = ap length entries-are in
        omega arith

    pub ends_at : (a : Additions img used size (pieces (length addresses) size sectors)) (p : Placed)
        → p.index.0 ≡ used + block_length_for (length a.stored) size + (49 + 8 * table_count img First table)
        → p.used ≡ p.index.0 + (20 + 16 * length (new_entries a)) → placed (used_after used added) (index_start used added) ≡ p
    unfolding additions
    ends_at a p e f =
        let x : index_start used added ≡ p.index.0 = index_is ∙ rw (stored_is a) (sym e) in
        let y : used_after used added ≡ p.used = end_is ∙ rw (x, kept-is a, stored_is a) (sym f) in
        λ j. placed (y j) (x j)
