-- A flattening of a pair that has sectors, all of whose checks but 35 have passed: what is planned, and what is left.
use mathlib.Core.List.{List, [], ◌∷◌}
use mathlib.Core.Logic.{◌≢◌}
use mathlib.Core.Path.{◌≡◌, refl, sym, ap, ◌∙◌, subst}
use Prim.Native.Nat.{ℕ, ◌≤◌, ◌<◌}
use native.Mathlib.Omega.{arith}
use lib.ListN.{length, length-map}
use Rattle.std.specs.Prelude.{Ok, Err}
use Rattle.fields.specs.Bytes.{overwrite}
use Rattle.format.specs.Lists.{All}
use Rattle.format.specs.Refusals.{refusal}
use Rattle.format.specs.Opening.{Opened, opening}
use Rattle.format.specs.Writing.{most_sectors, largest_size, most_addresses, placed}
use Rattle.format.specs.Creating.{created_used, created_bytes}
use Rattle.format.specs.Answers.{answered}
use Rattle.format.specs.Flattening.{count_of, pair_at, Written, written_of, size_of, sectors_of, flatten}
use Rattle.format.proofs.Lists.{not-empty, Sized}
use Rattle.format.proofs.Storing.{stored-few}
use Rattle.format.proofs.Composing.{Composable}
use Rattle.format.proofs.Flattening.{sector_list, number_list, pair-some, Flattenable, flattenable, composable, pieces_are, flatten-composed}
use Rattle.opening.proofs.Accepted.{opened-is}
use Rattle.opening.specs.Images.{held}
use Rattle.pairs.specs.declared.pair.Pair.{Pair}
use Rattle.pairs.specs.Sectors.{sector_of}
use Rattle.pairs.proofs.Sectors.{sector-some, sector-is}
use Rattle.storing.specs.Turns.{no_disc}
use Rattle.composing.specs.declared.Layout.{Layout}
use Rattle.composing.specs.Composes.{handed, stored_of, composed_in, layout_of, Sectors, Lays, Plan, Fits}
use Rattle.composing.proofs.Counting.{some_stored}
use Rattle.composing.proofs.Laid.{Most, most-lays}
use Rattle.composing.proofs.New.{Hands, composed-full, composed-fits, composed-done}
use Rattle.flattening.specs.Flattens.{Ready}
use Rattle.flattening.proofs.Sectors.{numbers-are, sectors-are, sized-at, somewhere}

-- the child's count is that of its table
pub count-is : (child : List ℕ) (t : Opened) → opening child ≡ Ok t → t.count ≡ count_of child
count-is child t e = ap (λ (u : Opened). u.count) (sym (opened-is child t e))

-- a list that has members
record Split (l : List Written) : Type 0 where
  head : Written
  rest : List Written
  is : l ≡ head ∷ rest

split : (l : List Written) → l ≢ [] → Split l
split [] h = absurd (h refl)
split (w ∷ ws) h = record { head = w; rest = ws; is = refl }

module _ {buffer application : List ℕ} {pair : Pair} {size : ℕ} (q : Ready buffer pair application size) where
  abbrev child : List ℕ
  child = pair.child.bytes.now

  abbrev parent : List ℕ
  parent = pair.parent.bytes.now

  abbrev count : ℕ
  count = (held pair.child).count

  many : count ≡ count_of child
  many = count-is child (held pair.child) pair.child.opens

  k : Flattenable buffer child parent application
  k = (flattenable buffer child parent application).0 q.checked

  s : Split (written_of child parent)
  s = split (written_of child parent) q.any

  abbrev ws : List Written
  ws = s.head ∷ s.rest

  abbrev f : ℕ → List ℕ
  f = sector_of pair

  c : Composable buffer (count_of child) (number_list ws) (size_of ws) (sectors_of ws) application
  c = composable k s.head s.rest s.is

  sized : All (Sized (size_of ws)) (sector_list ws)
  sized = subst (λ (l : List Written). All (Sized (size_of l)) (sector_list l)) s.is k.sized

  size_is : size ≡ size_of ws
  size_is = q.size_is ∙ ap size_of s.is

  handed-are : handed f (count_of child) ≡ sector_list ws
  unfolding written_of
  handed-are = sym (sectors-are (pair_at child parent) (pair-some child parent) (count_of child)) ∙ ap sector_list s.is

  hands : Hands f (count_of child) (number_list ws) (size_of ws) (sectors_of ws)
  unfolding written_of
  hands = record {
    numbers-are = ap number_list (sym s.is) ∙ numbers-are (pair_at child parent) (pair-some child parent) (count_of child);
    sectors-are = pieces_are (size_of ws) ws sized ∙ sym handed-are;
  }

  sectors : Sectors f count size
  unfolding written_of
  sectors = record {
    sized = λ n h e.
        sized-at (pair_at child parent) size (count_of child) 0 n (f n) (rw q.size_is k.sized) (omega arith) (omega (arith, many)) (sector-some child parent n (f n) refl (omega arith));
    pos = rw size_is c.some;
  }

  stored_some : (block : ℕ) → length (stored_of block f count).items ≢ 0
  unfolding written_of
  stored_some block =
      let w = somewhere (pair_at child parent) (count_of child) 0 q.any in
      let i = sector-is child parent w.at w.sector w.has in
      some_stored block f count w.at (omega (arith, w.inside, many)) (rw i.0 (not-empty w.sector i.1))

  -- no more are stored than there are
  few : (block : ℕ) → length (stored_of block f count).items ≤ length (written_of child parent)
  few block =
      omega (arith, stored-few [] no_disc block (handed f count) [], ap length (ap (handed f) many ∙ handed-are), ap length (sym s.is), length-map ws (λ (w : Written). w.sector))

  lays : {n : ℕ} → n ≤ length (written_of child parent) → n ≢ 0 → (count ≤ most_sectors) × (size ≤ largest_size) × (n ≤ most_addresses) × (n ≢ 0)
  lays l o = (omega (arith, many, k.most), omega (arith, q.size_is, k.small), omega (arith, k.few), o)

  pub flat-lays : (block : ℕ) {stored : ℕ} → stored ≡ length (stored_of block f count).items → (count ≤ most_sectors) × (size ≤ largest_size) × (stored ≤ most_addresses) × (stored ≢ 0)
  flat-lays block e = lays (omega (arith, few block)) (λ y. stored_some block (sym e ∙ y))

  -- if all were stored
  pub flat-all : {n : ℕ} → n ≡ length (written_of child parent) → (count ≤ most_sectors) × (size ≤ largest_size) × (n ≤ most_addresses) × (n ≢ 0)
  flat-all e = lays (omega arith) (λ y. stored_some 0 (omega (arith, few 0)))

  module _ {most : Layout} (l : most ≡ layout_of count size (length (written_of child parent))) where
    pub flat-most : Most f count size (length (written_of child parent)) most
    flat-most = record { sectors = sectors; few = few (created_used count); laid = l }

    -- with room for that
    pub flat-roomy : {buf : List ℕ} → length buf ≡ length buffer → most.end ≤ length buffer → Lays buf f count size most
    flat-roomy e h = most-lays flat-most (omega (arith, k.long)) (omega arith)

  pub flat-plan : {stored : ℕ} {at : Layout} → stored ≡ length (stored_of (created_used count) f count).items → at ≡ layout_of count size stored → Plan f count size stored at
  flat-plan e l = record { sectors = sectors; some = λ y. stored_some (created_used count) (sym e ∙ y); counted = e; laid = l }

  module _ (major minor mediaType creationTime lastWrittenTime : ℕ) {stored : ℕ} {at : Layout} (p : Plan f count size stored at) where
    plan : Plan f (count_of child) (size_of ws) stored at
    plan = rw (← many, ← size_is) p

    pub flat-full : length buffer < at.end → answered (Err (refusal 35 0)) buffer ≡ flatten buffer child parent application major minor mediaType creationTime lastWrittenTime
    flat-full h =
        composed-full _ _ _ _ _ _ major minor mediaType creationTime lastWrittenTime c hands plan h
        ∙ sym (flatten-composed buffer child parent application major minor mediaType creationTime lastWrittenTime k s.head s.rest s.is)

    module _ (h : at.end ≤ length buffer) {b₁ : List ℕ} (e₁ : b₁ ≡ overwrite buffer 0 (created_bytes count application major minor mediaType creationTime lastWrittenTime)) where
      made : b₁ ≡ overwrite buffer 0 (created_bytes (count_of child) application major minor mediaType creationTime lastWrittenTime)
      made = rw many at e₁

      pub flat-fits : Fits b₁ f count size stored at
      flat-fits = rw (many, size_is) (composed-fits _ _ _ _ _ _ major minor mediaType creationTime lastWrittenTime c hands plan h made)

      pub flat-done : {b₂ : List ℕ} → b₂ ≡ composed_in b₁ f size count lastWrittenTime
          → answered (Ok (placed at.end at.index.0)) b₂ ≡ flatten buffer child parent application major minor mediaType creationTime lastWrittenTime
      flat-done e₂ =
          composed-done _ _ _ _ _ _ major minor mediaType creationTime lastWrittenTime c hands plan h made (rw (many, size_is) at e₂)
          ∙ sym (flatten-composed buffer child parent application major minor mediaType creationTime lastWrittenTime k s.head s.rest s.is)
