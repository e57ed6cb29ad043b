-- How the text is made of the pieces that the code writes: a line of its words and numbers, the lines of an image one after the other, and
-- the whole.
-- Assumes nothing.
use mathlib.Core.List.{List, ◌++◌, append_assoc, append-nil}
use mathlib.Core.Path.{◌≡◌, ap, ◌∙◌}
use Prim.Native.Nat.{ℕ, zero, suc, ◌+◌, ◌≤◌, ◌<◌}
use native.Mathlib.Numerals.{add-one}
use native.Mathlib.Omega.{arith}
use lib.ListN.{length}
use lib.IntN.{ℤ, pos, ◌+ℤ◌, +ℤ_assoc, +ℤ_idr}
use Rattle.std.specs.Prelude.{Ok, Err}
use Rattle.format.specs.declared.AddressRange.{AddressRange}
use Rattle.format.specs.declared.Place.{Place}
use Rattle.format.specs.declared.Refusal.{Refusal}
use Rattle.format.specs.Refusals.{Answer}
use Rattle.format.specs.Opening.{sector_count}
use Rattle.format.specs.Reading.{locate}
use Rattle.text.specs.Text.{TOO-LONG, NEWLINE, decimal, signed, longest_input}
use Rattle.text.specs.declared.Writer.{Writer}
use Rattle.text.specs.Appends.{Appends}
use Rattle.text.proofs.Writes.{unless-long, unless-short}
use Rattle.text.proofs.Appends.{appends_then}
use Rattle.listing.specs.Listing.{SPACE, DASH, head, line, lines_from, lines, image_text, listing}

-- ---- the line of an address
module _ {s t u : Writer} {l : Answer Place} (a : ℤ) (w : Appends s (signed a) t) where
  pub line_refused : {r : Refusal} → l ≡ Err r → Appends t (DASH ++ decimal r.number ++ NEWLINE) u → Appends s (line a l) u
  unfolding line
  line_refused e v = rw e (simp append_assoc (appends_then w v))

  pub line_at : {x : Place} {v : Writer} → l ≡ Ok x → Appends t (SPACE ++ decimal x.start.0) u
      → Appends u (SPACE ++ decimal x.size ++ NEWLINE) v → Appends s (line a l) v
  unfolding line
  line_at e y z = rw e (simp append_assoc (appends_then w (appends_then y z)))

-- ---- the lines of an image
pub address-next : (a : ℤ) (n : ℕ) → a +ℤ pos n +ℤ pos 1 ≡ a +ℤ pos (suc n)
address-next a n = +ℤ_assoc a (pos n) (pos 1) ∙ ap (λ (k : ℕ). a +ℤ pos k) (omega arith)

lines_from-last : (img : List ℕ) (k : ℕ) (a : ℤ) → lines_from img (suc k) a ≡ lines_from img k a ++ line (a +ℤ pos k) (locate img (a +ℤ pos k))
unfolding lines_from
lines_from-last img zero a = rw (append-nil, +ℤ_idr)
lines_from-last img (suc k) a =
    let e : a +ℤ pos 1 +ℤ pos k ≡ a +ℤ pos (suc k) = +ℤ_assoc a (pos 1) (pos k) ∙ ap (λ (n : ℕ). a +ℤ pos n) (omega arith) in
    rw (append_assoc, ← e) (ap (λ (l : List ℕ). line a (locate img a) ++ l) (lines_from-last img k (a +ℤ pos 1)))

-- an iteration of a loop over the addresses from `low` on: where the lines of n of them are written, and then the next one
pub lines_next : {s t u : Writer} (img : List ℕ) (low : ℤ) (n : ℕ) → Appends s (lines_from img n low) t
    → Appends t (line (low +ℤ pos n) (locate img (low +ℤ pos n))) u → Appends s (lines_from img (n + 1) low) u
lines_next img low n w v = rw (add-one, lines_from-last) (appends_then w v)

-- ---- the whole, after the first line
module _ {s t : Writer} (img : List ℕ) where
  pub image-opens : {u : Writer} (r : AddressRange) → Ok r ≡ sector_count img → Appends s (head (Ok r)) t
      → Appends t (lines_from img r.count r.lowest.0) u → Appends s (image_text img) u
  unfolding image_text lines
  image-opens r e w v = rw (← e) (appends_then w v)

  pub image-refused : (r : Refusal) → Err r ≡ sector_count img → Appends s (head (Err r)) t → Appends s (image_text img) t
  unfolding image_text lines
  image-refused r e w = rw (← e, append-nil) w

pub listing-long : (input : List ℕ) → longest_input < length input → listing input ≡ TOO-LONG ++ NEWLINE
unfolding listing
listing-long input h = unless-long input (image_text input) h

pub listing-image : (input : List ℕ) → length input ≤ longest_input → listing input ≡ image_text input
unfolding listing
listing-image input h = unless-short input (image_text input) h
