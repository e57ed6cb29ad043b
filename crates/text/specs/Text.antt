-- The words and numbers of which the programs' texts are made, and the longest input that a program takes.
-- A text is the list of its bytes.
use Rattle.std.specs.Prelude.{List, [], ◌∷◌, ◌++◌, ℕ, zero, suc, ◌+◌, ◌/◌, ◌%◌, length, ℤ, pos, negsuc}
use Rattle.format.specs.Tests.{below, choose}

-- ---- words, by the codes of their characters
abbrev pub REFUSED : List ℕ
REFUSED = 114 ∷ 101 ∷ 102 ∷ 117 ∷ 115 ∷ 101 ∷ 100 ∷ 32 ∷ []

abbrev pub TOO-LONG : List ℕ
TOO-LONG = 116 ∷ 111 ∷ 111 ∷ 32 ∷ 108 ∷ 111 ∷ 110 ∷ 103 ∷ []

abbrev pub MINUS : List ℕ
MINUS = 45 ∷ []

-- the end of every line
abbrev pub NEWLINE : List ℕ
NEWLINE = 10 ∷ []

-- ---- numbers, in decimal
-- the code of the last digit; that of the digit 0 is 48
abbrev pub last_digit : ℕ → ℕ
last_digit n = 48 + n % 10

-- at most k digits of n, the highest first: those of n / 10 where n has more than one, then the last
unfoldable pub digits : ℕ → ℕ → List ℕ
digits zero n = []
digits (suc k) n = choose (below n 10) [] (digits k (n / 10)) ++ (last_digit n ∷ [])

-- all of them: a number of 64 bits has at most 20
unfoldable pub decimal : ℕ → List ℕ
decimal n = digits 20 n

-- a number that may be negative
unfoldable pub signed : ℤ → List ℕ
signed (pos n) = decimal n
signed (negsuc n) = MINUS ++ decimal (suc n)

-- ---- the line of a refusal, by its number
unfoldable pub refused_line : ℕ → List ℕ
refused_line n = REFUSED ++ decimal n ++ NEWLINE

-- ---- a program's text for an input of at most 65,536 bytes. "A longer input prints `too long`."
abbrev pub longest_input : ℕ
longest_input = 65536

unfoldable pub unless_long : List ℕ → List ℕ → List ℕ
unless_long input text = choose (below longest_input (length input)) (TOO-LONG ++ NEWLINE) text
