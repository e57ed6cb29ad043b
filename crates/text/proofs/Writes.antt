-- Laws of `Writes` and `Prints`: how texts that are written one after the other join, and what is written whole.
-- Assumes nothing.
use mathlib.Core.List.{List, [], ◌∷◌, ◌++◌}
use mathlib.Core.Logic.{⊎_elim}
use mathlib.Core.Path.{◌≡◌, refl, sym, ap, ◌∙◌}
use Prim.Native.Nat.{ℕ, ◌+◌, ◌-◌, ◌≤◌, ◌<◌}
use native.Mathlib.Nat.{eq-zero-or-pos}
use native.Mathlib.Omega.{arith}
use lib.ListN.{length, set, length-append}
use Rattle.fields.specs.Bytes.{overwrite}
use Rattle.fields.proofs.Overwrite.{length-overwrite, overwrite-out, overwrite-then}
use Rattle.format.proofs.Tests.{below_true, below-iff, choose-true, choose-false}
use Rattle.text.specs.Buffer.{Writes, Prints}
use Rattle.text.specs.Text.{TOO-LONG, NEWLINE, longest_input, unless_long}

-- two runs of bytes, where the first reaches the end, and the second is written there
overwrite-end : (s : List ℕ) (at : ℕ) (x y : List ℕ) → length s ≤ at + length x → overwrite (overwrite s at x) (length s) y ≡ overwrite s at (x ++ y)
overwrite-end s at x y h =
    let l = length-overwrite s at x in
    overwrite-out (overwrite s at x) (length s) y (omega arith)
    ∙ sym (overwrite-out (overwrite s at x) (at + length x) y (omega arith)) ∙ overwrite-then s at x y

-- nothing is written
pub writes-none : (s : List ℕ) (at : ℕ) → at ≤ length s → Writes s at [] s at
unfolding overwrite
writes-none s at h = record { bytes = refl; place = omega arith }

-- one text after the other
pub writes_then : {s t u x y : List ℕ} {at p q : ℕ} → Writes s at x t p → Writes t p y u q → Writes s at (x ++ y) u q
writes_then {s} {t} {u} {x} {y} {at} {p} {q} w v =
    let l : length t ≡ length s = ap length w.bytes ∙ length-overwrite s at x in
    let e = w.place in
    let f = v.place in
    record {
      bytes =
          v.bytes ∙ ap (λ (b : List ℕ). overwrite b p y) w.bytes
          ∙ ⊎_elim
          (λ h. let d : p ≡ at + length x = omega arith in rw d (overwrite-then s at x y))
          (λ h. let d : p ≡ length s = omega arith in rw d (overwrite-end s at x y (omega arith)))
          (eq-zero-or-pos (at + length x - length s));
      place = simp length-append (omega arith);
    }

-- ---- a byte
pub writes_byte : (s : List ℕ) (at b : ℕ) → at < length s → Writes s at (b ∷ []) (set s at b) (at + 1)
unfolding overwrite
writes_byte s at b h = record { bytes = refl; place = omega arith }

-- at the end nothing changes
pub writes-full : (s : List ℕ) (at : ℕ) (text : List ℕ) → at ≡ length s → Writes s at text s at
writes-full s at text e = record { bytes = sym (overwrite-out s at text (omega arith)); place = omega arith }

-- ---- a program's text, by the length of its input
module _ (input text : List ℕ) where
  pub unless-long : longest_input < length input → unless_long input text ≡ TOO-LONG ++ NEWLINE
  unfolding unless_long
  unless-long h = choose-true _ _ _ (below_true _ _ h)

  pub unless-short : length input ≤ longest_input → unless_long input text ≡ text
  unfolding unless_long
  unless-short h = choose-false _ _ _ (below-iff.1 h)

-- ---- a text at the front of a buffer that has room for it
-- is written whole
pub writes-prints : {s text t : List ℕ} {n : ℕ} → length text ≤ length s → Writes s 0 text t n → Prints s text t n
writes-prints f w = let e = w.place in record { bytes = w.bytes; whole = omega arith; room = f }
