-- Laws of `layout`: how long a record is, its fields written one after the other, and read back where the record stands.
-- Assumes nothing.
use mathlib.Core.List.{List, [], ◌∷◌, ◌++◌, append_assoc, append-nil}
use mathlib.Core.Path.{◌≡◌, refl, sym, ap, ◌∙◌}
use Prim.Native.Nat.{ℕ, zero, suc, ◌+◌, ◌^◌, ◌<◌}
use native.Mathlib.Nat.{add-zero, not-suc-le-zero, le_of_suc-le-suc}
use native.Mathlib.Omega.{arith}
use lib.ListN.{length, take, get_or, length-append}
use Rattle.fields.specs.Bytes.{part, field, overwrite}
use Rattle.fields.specs.Layout.{Field, num, raw, field_bytes, layout}
use Rattle.fields.proofs.Numbers.{length-to_le}
use Rattle.fields.proofs.Overwrite.{overwrite-then}
use Rattle.fields.proofs.Holds.{Holds, holds-all, holds-left, holds-right, holds-number}

abbrev pub width : Field → ℕ
width (num k v) = k
width (raw bytes) = length bytes

length-field_bytes : (f : Field) → length (field_bytes f) ≡ width f
length-field_bytes (num k v) = length-to_le k v
length-field_bytes (raw bytes) = refl

abbrev pub total : List Field → ℕ
total [] = 0
total (f ∷ fs) = width f + total fs

-- field j of a record that stands at a place
pub holds-nth : (s : List ℕ) (at : ℕ) (fs : List Field) (rest : List ℕ) → Holds s at (layout fs ++ rest) → (j : ℕ) → j < length fs
    → Holds s (at + total (take j fs)) (field_bytes (get_or fs j (raw [])))
unfolding layout
holds-nth s at [] rest h j k = absurd (not-suc-le-zero k)
holds-nth s at (f ∷ fs) rest h zero k = rw add-zero (holds-left s at (field_bytes f) (layout fs ++ rest) (rw append_assoc at h))
holds-nth s at (f ∷ fs) rest h (suc j) k =
    let e : at + (width f + total (take j fs)) ≡ at + length (field_bytes f) + total (take j fs) = omega (arith, length-field_bytes f) in
    rw e (holds-nth s (at + length (field_bytes f)) fs rest (holds-right s at (field_bytes f) (layout fs ++ rest) (rw append_assoc at h) refl) j (le_of_suc-le-suc k))

-- a number of it
pub holds-num : (s : List ℕ) (at : ℕ) (fs : List Field) (rest : List ℕ) → Holds s at (layout fs ++ rest) → (j k v : ℕ) → j < length fs
    → get_or fs j (raw []) ≡ num k v → v < 256 ^ k → field s (at + total (take j fs)) k ≡ v
holds-num s at fs rest h j k v l e b = holds-number s _ k v (rw e at (holds-nth s at fs rest h j l)) b

-- its first field, as bytes
pub holds-raw : (s : List ℕ) (at : ℕ) (bytes : List ℕ) (fs : List Field) (rest : List ℕ) → Holds s at (layout (raw bytes ∷ fs) ++ rest)
    → part s at (length bytes) ≡ bytes
holds-raw s at bytes fs rest h =
    holds-all s at bytes (rw add-zero at (holds-nth s at (raw bytes ∷ fs) rest h 0 (omega arith)))

pub length-layout : (fs : List Field) → length (layout fs) ≡ total fs
unfolding layout
length-layout [] = refl
length-layout (f ∷ fs) = simp (length-append, length-field_bytes, length-layout fs)

-- ---- a record's fields written one after the other are the record written at once

layout-append : (fs gs : List Field) → layout (fs ++ gs) ≡ layout fs ++ layout gs
unfolding layout
layout-append [] gs = refl
layout-append (f ∷ fs) gs = rw (layout-append fs gs, append_assoc)

-- so many fields were written from `at` on
pub record Laid (s : List ℕ) (at : ℕ) (fs : List Field) (after : List ℕ) : Type 0 where
  pub is : after ≡ overwrite s at (layout fs)

-- the first field
pub laid-first : {s : List ℕ} {at : ℕ} {after : List ℕ} (f : Field) → after ≡ overwrite s at (field_bytes f) → Laid s at (f ∷ []) after
unfolding layout
laid-first {s} {at} f e = record { is = e ∙ ap (overwrite s at) (sym (append-nil (field_bytes f))) }

-- more fields, where those so far end
pub laid_more : {s : List ℕ} {at p : ℕ} {fs : List Field} {between after : List ℕ} (gs : List Field) → Laid s at fs between
    → after ≡ overwrite between p (layout gs) → p ≡ at + total fs → Laid s at (fs ++ gs) after
laid_more {s} {at} {p} {fs} gs b e q =
    let n : p ≡ at + length (layout fs) = omega (arith, length-layout fs) in
    record {
      is = e ∙ ap (λ (l : List ℕ). overwrite l p (layout gs)) b.is ∙ ap (λ (m : ℕ). overwrite (overwrite s at (layout fs)) m (layout gs)) n
          ∙ overwrite-then s at (layout fs) (layout gs) ∙ ap (overwrite s at) (sym (layout-append fs gs));
    }

-- one more field
pub laid_next : {s : List ℕ} {at p : ℕ} {fs : List Field} {between after : List ℕ} (f : Field) → Laid s at fs between
    → after ≡ overwrite between p (field_bytes f) → p ≡ at + total fs → Laid s at (fs ++ (f ∷ [])) after
laid_next f b e q = laid_more (f ∷ []) b (laid-first f e).is q
