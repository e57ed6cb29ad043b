-- The whole text of every input fits a buffer of 311,296 bytes (16,384 lines of 19): an image of at most 65,536 bytes has at most 16,384 sectors, and its
-- lowest address is above -65,536, so an address has at most a minus and 5 digits, and a place and a size have at most 5.
-- Assumes nothing.
use mathlib.Core.Bool.{Bool, true, false}
use mathlib.Core.List.{List}
use mathlib.Core.Path.{◌≡◌, refl, sym}
use Prim.Native.Nat.{ℕ, zero, suc, ◌+◌, ◌*◌, ◌≤◌, ◌<◌}
use native.Mathlib.Omega.{arith}
use lib.Dec.{ltb}
use lib.IntN.{ℤ, pos, negsuc, neg_ℤ, nat_abs, ◌+ℤ◌, +ℤ_idr}
use lib.ListN.{length, length-append}
use Rattle.std.specs.Prelude.{Ok, Err}
use Rattle.format.specs.declared.Place.{Place}
use Rattle.format.specs.declared.Refusal.{Refusal}
use Rattle.format.specs.Refusals.{Answer}
use Rattle.format.specs.Opening.{Opened, range_of, sector_count}
use Rattle.format.specs.Reading.{locate}
use Rattle.format.proofs.Reading.{located-inside}
use Rattle.text.specs.Text.{decimal, longest_input}
use Rattle.text.proofs.Decimal.{length-decimal, length-signed, length-refused}
use Rattle.listing.specs.Listing.{head, line, lines_from, lines, image_text}
use Rattle.listing.proofs.Pieces.{address-next}
use Rattle.listing.proofs.Short.{count-refusal, locate-refusal, count-short}

abbrev pub longest_text : ℕ
longest_text = 311296

-- the address that follows the lowest one by n
low : (m n : ℕ) → m < 65536 → n < 16384 → nat_abs (neg_ℤ (pos m) +ℤ pos n) < 100000
low zero n h k = omega arith
low (suc m) n h k = go (ltb n (suc m)) refl
  where
    go : (b : Bool) → ltb n (suc m) ≡ b → nat_abs (negsuc m +ℤ pos n) < 100000
    go true e = rw e (omega arith)
    go false e = rw e (omega arith)

module _ (img : List ℕ) (short : length img ≤ longest_input) where
  line-fits : (a : ℤ) → nat_abs a < 100000 → (x : Answer Place) → locate img a ≡ x → length (line a x) ≤ 19
  unfolding line
  line-fits a b (Ok p) e =
      let i = located-inside img a p e in
      let u = length-signed 4 a b in
      let v = length-decimal 4 p.start.0 (omega arith) in
      let w = length-decimal 4 p.size (omega arith) in
      simp length-append (omega arith)
  line-fits a b (Err r) e =
      let u = length-signed 4 a b in
      let v = length-decimal 1 r.number (locate-refusal img a r e) in
      simp length-append (omega arith)

  lines_fit : (m : ℕ) → m < 65536 → (k n : ℕ) → n + k ≤ 16384 → length (lines_from img k (neg_ℤ (pos m) +ℤ pos n)) ≤ k * 19
  unfolding lines_from
  lines_fit m h zero n b = omega arith
  lines_fit m h (suc k) n b =
      let u = line-fits (neg_ℤ (pos m) +ℤ pos n) (low m n h (omega arith)) (locate img (neg_ℤ (pos m) +ℤ pos n)) refl in
      let v = lines_fit m h k (suc n) (omega arith) in
      rw (address-next) (simp length-append (omega arith))

  -- an image that opens
  pub opened-fits : (t : Opened) → Ok (range_of t) ≡ sector_count img → t.negative < 65536 → length (image_text img) ≤ longest_text
  unfolding image_text head lines range_of
  opened-fits t e h =
      let c = count-short img (range_of t) (sym e) in
      let u : length (decimal (range_of t).count) ≤ 5 = length-decimal 4 t.count (omega arith) in
      let v : length (lines img (Ok (range_of t))) ≤ t.count * 19 = rw +ℤ_idr at (lines_fit t.negative h t.count 0 (omega arith)) in
      rw (← e) (simp length-append (omega arith))

  -- one that does not
  pub refused-fits : (r : Refusal) → Err r ≡ sector_count img → length (image_text img) ≤ longest_text
  unfolding image_text head lines
  refused-fits r e =
      let u = length-refused 1 r.number (count-refusal img r (sym e)) in
      rw (← e) (simp length-append (omega arith))
