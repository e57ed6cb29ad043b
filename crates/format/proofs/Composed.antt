-- Where a creation and one commit (Composing) end, by the sectors that are stored.
use mathlib.Core.List.{List, [], ◌∷◌, ◌++◌, map}
use mathlib.Core.Logic.{inl, inr, ⊎_map, ◌↔◌}
use mathlib.Core.Path.{◌≡◌, refl, sym, ap, ◌∙◌}
use Prim.Native.Nat.{ℕ, ◌+◌, ◌*◌, ◌≤◌, ◌<◌}
use native.Mathlib.Omega.{arith}
use lib.ListN.{length, length-append, length-map}
use lib.IntN.{ℤ, pos}
use Rattle.format.specs.declared.TableKind.TheVariants.{First}
use Rattle.format.specs.Lists.{Any}
use Rattle.format.specs.Layouts.{DDT*, index_offset, entries, user_data_entry, table_count}
use Rattle.format.specs.Opening.{Opened, opened_as, opened}
use Rattle.format.specs.Writing.{placed}
use Rattle.format.specs.Creating.{created_index_at, created_used, created_entries}
use Rattle.format.specs.Committing.{entry_numbers, pieces, Appended, appended, index_start, used_after}
use Rattle.format.specs.Facts.{OpensWith, Stores, all, again, new, Reindexed, replaced, end, block_length_for}
use Rattle.format.specs.Demands.{Held, Additions, new_entries, new_image}
use Rattle.format.proofs.Checks.{created-used, Sound}
use Rattle.format.proofs.Opens.{opened-as, writable-with}
use Rattle.format.proofs.Composing.{made, made-offset, made-sound, made-opened, made-entries, made-empty, made-numbers, Composable, added, composed_used, composed_index}
use Rattle.format.proofs.Created.{length-new}
use Rattle.format.proofs.Storing.{length-pieces}
use Rattle.format.proofs.Bytes.{tag-bytes}
use Rattle.format.proofs.KeptEntries.{reindexed-back}
use Rattle.format.proofs.Ends.{length_some, entry-some, additions, ends_at}

-- ---- the sectors that are stored
stores-map : {H K : List ℕ → Type 0} → ((d : List ℕ) → H d ↔ K d) → (stored ds last : List (List ℕ)) → Stores H stored ds last → Stores K stored ds last
stores-map f stored _ _ all = all
stores-map f stored _ last (again {ds = ds} {d = d} k r) = again (⊎_map (f d).0 (λ q. q) k) (stores-map f stored ds last r)
stores-map f stored _ last (new {ds = ds} {d = d} k r) = new (λ q. k (⊎_map (f d).1 (λ a. a) q)) (stores-map f (stored ++ (d ∷ [])) ds last r)

stores-grow : {H : List ℕ → Type 0} (stored ds last : List (List ℕ)) → Stores H stored ds last → length stored ≤ length last
stores-grow stored _ _ all = omega arith
stores-grow stored _ last (again {ds = ds} k r) = stores-grow stored ds last r
stores-grow stored _ last (new {ds = ds} {d = d} k r) = omega (arith, stores-grow (stored ++ (d ∷ [])) ds last r, length-append stored (d ∷ []))

any_none : {A : Type 0} {P : A → Type 0} → ¬ Any P []
any_none = elim [ ]

-- the first sector, where there is none before it
stores_some : (ds last : List (List ℕ)) → 0 < length ds → Stores (λ (d : List ℕ). ⊥) [] ds last → 0 < length last
stores_some _ _ h all = absurd (omega arith)
stores_some _ _ h (again (inl k) r) = absurd k
stores_some _ _ h (again (inr k) r) = absurd (any_none k)
stores_some _ last h (new {ds = ds} {d = d} k r) = stores-grow (d ∷ []) ds last r

-- of the sectors that are handed in, on a disc that holds none: those that are stored
pub record Storable (handed : List (List ℕ)) : Type 0 where
  pub stored : List (List ℕ)
  pub stores : Stores (λ (d : List ℕ). ⊥) [] handed stored

image-some : (count size : ℕ) (stored : List (List ℕ)) → 0 < length stored
    → new_image count size stored ≡ placed (189 + 8 * count + (36 + length stored * size) + (49 + 8 * count) + (20 + 16 * 2)) (189 + 8 * count + (36 + length stored * size) + (49 + 8 * count))
unfolding new_image
image-some count size [] h = absurd (omega arith)
image-some count size (d ∷ stored) h = refl

-- a creation and one commit (Composing): none of the sectors is on the new disc, one at least is stored, and the index has two entries
module _ (buffer : List ℕ) (count : ℕ) (numbers : List ℕ) (size : ℕ) (sectors application : List ℕ) (major minor mediaType creationTime lastWrittenTime : ℕ)
    (k : Composable buffer count numbers size sectors application) (any : 0 < length numbers) where
  abbrev disc : List ℕ
  disc = made count application major minor mediaType creationTime lastWrittenTime

  offset-is : index_offset disc ≡ created_index_at count
  offset-is = made-offset count application major minor mediaType creationTime lastWrittenTime k.sized k.most

  s : Sound disc (index_offset disc)
  s = rw offset-is (made-sound count application major minor mediaType creationTime lastWrittenTime k.sized k.most)

  held_none : (d : List ℕ) → Held disc d ↔ ⊥
  held_none d = (made-empty count application major minor mediaType creationTime lastWrittenTime k.sized k.most d, absurd)

  abbrev used₀ : ℕ
  used₀ = created_used count

  abbrev addresses₀ : List ℤ
  addresses₀ = map pos numbers

  many : length addresses₀ ≡ length numbers
  many = length-map numbers pos

  long : length disc ≡ used₀
  long = length-new count application major minor mediaType creationTime lastWrittenTime k.sized

  whole : length sectors ≡ length addresses₀ * size
  whole = k.whole ∙ ap (λ n. n * size) (sym many)

  opens : OpensWith disc (index_offset disc) First
  opens = (writable-with disc (index_offset disc)).0 (record { opens = s.opens; first = s.first })

  table-count : table_count disc First opens.table ≡ count
  unfolding opened_as
  table-count =
      sym (ap (λ (u : Opened). u.count) (opened-as disc (index_offset disc) First opens.table opens.opens))
      ∙ ap (λ (u : Opened). u.count) (ap (opened disc) offset-is ∙ made-opened count application major minor mediaType creationTime lastWrittenTime k.sized k.most)

  entries-are : entries disc (index_offset disc) ≡ created_entries
  entries-are = ap (entries disc) offset-is ∙ made-entries count application major minor mediaType creationTime lastWrittenTime k.sized k.most

  kept-one : (table : ℕ) → Reindexed table (entries disc (index_offset disc)) (user_data_entry DDT* table ∷ [])
  kept-one table = rw entries-are (replaced (record { type = tag-bytes DDT* tt; user_data = refl }) end)

  two-entries : (a : Additions disc used₀ size (pieces (length addresses₀) size sectors)) → 0 < length a.stored → length (new_entries a) ≡ 2
  two-entries a h =
      let t : ℕ = used₀ + block_length_for (length a.stored) size in
      let one : a.kept ≡ user_data_entry DDT* t ∷ [] = sym (reindexed-back t _ a.kept a.keeps) ∙ reindexed-back t _ _ (kept-one t) in
      length-append a.kept _ ∙ (λ j. length (one j) + length (entry-some used₀ (length a.stored) (λ e. omega arith) j))

  added_is : appended disc (index_offset disc) (entry_numbers (opened disc (index_offset disc)) addresses₀) size sectors ≡ added buffer count numbers size sectors application major minor mediaType creationTime lastWrittenTime
  added_is = rw (offset-is, made-numbers count application major minor mediaType creationTime lastWrittenTime k.sized k.most k.inside) refl

  -- the sectors that are stored
  abbrev Storing : List (List ℕ) → Type 0
  Storing stored = Stores (λ (d : List ℕ). ⊥) [] (pieces (length numbers) size sectors) stored

  some_stored : (stored : List (List ℕ)) → Storing stored → 0 < length stored
  some_stored stored r = stores_some (pieces (length numbers) size sectors) stored (rw (length-pieces (length numbers) size sectors) any) r

  pub composed-stores : Storable (pieces (length numbers) size sectors)
  composed-stores =
      let a = additions disc s used₀ long addresses₀ size sectors whole in
      record { stored = a.stored; stores = rw many at (stores-map held_none [] _ _ a.stores) }

  -- where it ends, by these
  pub composed-ends : (stored : List (List ℕ)) → Storing stored
      → placed (composed_used buffer count numbers size sectors application major minor mediaType creationTime lastWrittenTime) (composed_index buffer count numbers size sectors application major minor mediaType creationTime lastWrittenTime)
      ≡ new_image count size stored
  composed-ends stored r =
      let h = some_stored stored r in
      let a : Additions disc used₀ size (pieces (length addresses₀) size sectors) =
      record {
        stored = stored;
        stores = stores-map (λ d. ((held_none d).1, (held_none d).0)) [] _ _ (rw many r);
        kept = _;
        keeps = kept-one _;
      } in
      let at : ℕ = 189 + 8 * count + (36 + length stored * size) + (49 + 8 * count) in
      ap (λ (x : Appended). placed (used_after used₀ x) (index_start used₀ x)) (sym added_is)
      ∙ ends_at disc s used₀ long addresses₀ size sectors whole opens.table opens.opens a (placed (at + (20 + 16 * 2)) at)
      (rw (table-count, length_some (length stored) size (λ z. omega arith), created-used count) refl) (ap (λ n. at + (20 + 16 * n)) (sym (two-entries a h)))
      ∙ sym (image-some count size stored h)
