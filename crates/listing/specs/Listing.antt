-- The text of the listing program. "The listing program reads an image of at most 65,536 bytes from standard input and prints the sector
-- count, then for each address the place of its first byte and its size, or a dash and the refusal." 11/13: "Addresses become signed", so the
-- addresses go from the lowest on, and a negative one has a minus.
-- A text is the list of its bytes.
use Rattle.std.specs.Prelude.{List, [], ◌∷◌, ◌++◌, ℕ, zero, suc, ℤ, pos, ◌+ℤ◌, Ok, Err}
use Rattle.format.specs.declared.AddressRange.{AddressRange}
use Rattle.format.specs.declared.Place.{Place}
use Rattle.format.specs.Refusals.{Answer}
use Rattle.format.specs.Opening.{sector_count}
use Rattle.format.specs.Reading.{locate}
use Rattle.text.specs.Text.{NEWLINE, decimal, signed, refused_line, unless_long}

-- ---- words, by the codes of their characters
abbrev pub SECTORS : List ℕ
SECTORS = 115 ∷ 101 ∷ 99 ∷ 116 ∷ 111 ∷ 114 ∷ 115 ∷ 32 ∷ []

abbrev pub SPACE : List ℕ
SPACE = 32 ∷ []

abbrev pub DASH : List ℕ
DASH = 32 ∷ 45 ∷ 32 ∷ []

-- ---- lines
-- "prints the sector count"; "A refused opening prints `refused` and the number on one line."
unfoldable pub head : Answer AddressRange → List ℕ
head (Ok s) = SECTORS ++ decimal s.count ++ NEWLINE
head (Err r) = refused_line r.number

-- "then for each address the place of its first byte and its size, or a dash and the refusal"
unfoldable pub line : ℤ → Answer Place → List ℕ
line a (Ok p) = signed a ++ SPACE ++ decimal p.start.0 ++ SPACE ++ decimal p.size ++ NEWLINE
line a (Err r) = signed a ++ DASH ++ decimal r.number ++ NEWLINE

-- the k addresses from a on
unfoldable pub lines_from : List ℕ → ℕ → ℤ → List ℕ
lines_from img zero a = []
lines_from img (suc k) a = line a (locate img a) ++ lines_from img k (a +ℤ pos 1)

-- all addresses of an image that opens
unfoldable pub lines : List ℕ → Answer AddressRange → List ℕ
lines img (Ok s) = lines_from img s.count s.lowest.0
lines img (Err r) = []

-- ---- the whole text
unfoldable pub image_text : List ℕ → List ℕ
image_text img = head (sector_count img) ++ lines img (sector_count img)

unfoldable pub listing : List ℕ → List ℕ
listing input = unless_long input (image_text input)
