-- The sectors of a file as those of the table's entries 0, 1, ..: each entry has one.
use mathlib.Core.Bool.{true, false}
use mathlib.Core.List.{List, [], ◌∷◌, ◌++◌}
use mathlib.Core.Logic.{◌≢◌}
use mathlib.Core.Option.{Option, none, some}
use mathlib.Core.Path.{◌≡◌, refl, sym, ap, ◌∙◌}
use Prim.Native.Nat.{ℕ, zero, suc, ◌+◌, ◌*◌, ◌/◌, ◌≤◌, ◌<◌}
use native.Mathlib.Nat.{add-zero, zero-add}
use native.Mathlib.Omega.{arith}
use lib.ListN.{length}
use Rattle.fields.proofs.Overwrite.{length_part}
use Rattle.format.specs.Lists.{of_each}
use Rattle.format.specs.Writing.{most_sectors, largest_size, most_addresses}
use Rattle.format.specs.Creating.{created_used}
use Rattle.format.specs.Committing.{among_stored, pieces}
use Rattle.format.proofs.Tests.{never}
use Rattle.format.proofs.Lists.{length-of_each}
use Rattle.format.proofs.Storing.{among_stored-found, among_none, get_or-pieces, length-pieces}
use Rattle.format.proofs.Importing.{Importable, file-whole, file-some, file-few, numbers_of as all_numbers}
use Rattle.search.proofs.Stored.{room}
use Rattle.planning.specs.Plans.{sector_of, missing, is_new}
use Rattle.planning.proofs.Seen.{pieces_more}
use Rattle.composing.specs.declared.Layout.{Layout}
use Rattle.composing.specs.Composes.{handed, numbers_of, stored_of, layout_of, Plan}
use Rattle.composing.proofs.Handed.{where-some, handed-some, items-few}
use Rattle.composing.proofs.Counting.{handed-has, counting-old, counting-new, some_stored}
use Rattle.composing.proofs.New.{Hands}
use Rattle.importing.specs.Imports.{Files}

each_more : {A : Type 0} (g : ℕ → A) (k i : ℕ) → of_each g (suc k) i ≡ of_each g k i ++ (g (i + k) ∷ [])
unfolding of_each
each_more g zero i = rw (add-zero i) refl
each_more g (suc k) i =
    let e : suc i + k ≡ i + suc k = omega arith in
    ap (λ l. g i ∷ l) (each_more g k (suc i) ∙ ap (λ n. of_each g k (suc i) ++ (g n ∷ [])) e)

module _ {file : List ℕ} {count size : ℕ} (h : Files file count size) where
  abbrev f : ℕ → List ℕ
  f = sector_of size file

  pub sector-inside : {a : ℕ} → a < count → a * size + size ≤ length file
  sector-inside l = omega (arith, room size l, h.whole)

  sector-long : {a : ℕ} → a < count → length (f a) ≡ size
  sector-long {a} l = length_part file (a * size) size (sector-inside l)

  sector-some : {a : ℕ} → a < count → length (f a) ≢ 0
  sector-some l = rw (sector-long l) h.pos

  -- what is handed in is the file, to all addresses
  file-handed : (k : ℕ) → k ≤ count → handed f k ≡ pieces k size file
  unfolding handed pieces
  file-handed zero l = refl
  file-handed (suc k) l = handed-some f k (sector-some l) ∙ ap (λ (l : List (List ℕ)). l ++ (f k ∷ [])) (file-handed k (omega arith)) ∙ sym (pieces_more k size file)

  file-numbers : (k : ℕ) → k ≤ count → numbers_of f k ≡ of_each (λ n. n) k 0
  unfolding numbers_of of_each
  file-numbers zero l = refl
  file-numbers (suc k) l =
      (λ j. file-numbers k (omega arith) j ++ where-some (f k) k (sector-some l) j)
      ∙ ap (λ n. of_each (λ m. m) k 0 ++ (n ∷ [])) (sym (zero-add k)) ∙ sym (each_more (λ m. m) k 0)

  -- ---- sector k is counted if it equals none before it
  module _ (block k : ℕ) {stored : ℕ} (l : k < count) (c : stored ≡ length (stored_of block f k).items) where
    abbrev found : Option ℕ
    found = among_stored (pieces k size file) (f k)

    pub file-new : true ≡ is_new size file k → stored + 1 ≡ length (stored_of block f (k + 1)).items
    unfolding is_new missing
    file-new e = go found refl (sym e)
      where
        go : (u : Option ℕ) → found ≡ u → missing u ≡ true → stored + 1 ≡ length (stored_of block f (k + 1)).items
        go (some j) q t = absurd (never t refl)
        go none q t =
            counting-new block f k c (sector-some l)
            (λ m b e.
            let a = handed-has f k m b (sector-some (omega arith)) in
            among_none (pieces k size file) (f k) q (rw (file-handed k (omega arith), e) at a))

    pub file-old : false ≡ is_new size file k → stored ≡ length (stored_of block f (k + 1)).items
    unfolding is_new missing
    file-old e = go found refl (sym e)
      where
        go : (u : Option ℕ) → found ≡ u → missing u ≡ false → stored ≡ length (stored_of block f (k + 1)).items
        go none q t = absurd (never refl t)
        go (some j) q t =
            let r = among_stored-found (pieces k size file) (f k) j q in
            let i : j < k = omega (arith, r.0, length-pieces k size file) in
            counting-old block f k c j i (sym (get_or-pieces k size file j i) ∙ r.1)

-- ---- an import whose checks passed
module _ {buffer file : List ℕ} {size : ℕ} {application : List ℕ} (k : Importable buffer file size application) where
  abbrev count : ℕ
  count = length file / size

  pub import-files : Files file count size
  import-files = record { whole = omega (arith, file-whole k); few = file-few k; pos = k.some }

  -- its sectors, as a commit takes them
  pub import-hands : Hands (sector_of size file) count (all_numbers count) size file
  import-hands =
      record {
        numbers-are = sym (file-numbers import-files count (omega arith));
        sectors-are = ap (λ n. pieces n size file) (length-of_each (λ n. n) count 0) ∙ sym (file-handed import-files count (omega arith));
      }

  -- one at least is stored
  import-some : (block : ℕ) → length (stored_of block (sector_of size file) count).items ≢ 0
  import-some block =
      let some : 0 < count = let n = file-some k in omega arith in
      some_stored block (sector_of size file) count 0 some (sector-some import-files some)

  pub import-lays : {stored : ℕ} → stored ≡ length (stored_of 0 (sector_of size file) count).items
      → (count ≤ most_sectors) × (size ≤ largest_size) × (stored ≤ most_addresses) × (stored ≢ 0)
  import-lays e =
      let n = import-some 0 in
      (omega (arith, file-few k), k.small, omega (arith, items-few 0 (sector_of size file) count, file-few k), λ z. absurd (omega arith))

  pub import-plan : {stored : ℕ} {at : Layout} → stored ≡ length (stored_of (created_used count) (sector_of size file) count).items → at ≡ layout_of count size stored
      → Plan (sector_of size file) count size stored at
  import-plan e l =
      let n = import-some (created_used count) in
      record {
        sectors = record { sized = λ a h s. sector-long import-files h; pos = k.some };
        some = λ z. absurd (omega arith);
        counted = e;
        laid = l;
      }
