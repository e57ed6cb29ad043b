-- What was written stands there: `Holds s at run`, and what follows for the run's parts and numbers.
-- Assumes nothing.
use mathlib.Core.List.{List, ◌++◌}
use mathlib.Core.Path.{◌≡◌, sym, ap, ◌∙◌}
use Prim.Native.Nat.{ℕ, ◌+◌, ◌^◌, ◌≤◌, ◌<◌}
use native.Mathlib.Nat.{add-zero}
use native.Mathlib.Omega.{arith}
use lib.ListN.{length, take, get_or, length-append, length-take, get_or-append}
use lib.Seq.{get_or-take, get_or-append-add, take-length}
use Rattle.fields.specs.Bytes.{part, from_le, to_le, field, overwrite}
use Rattle.fields.proofs.Numbers.{length-to_le, from_le-to_le}
use Rattle.fields.proofs.Overwrite.{length-overwrite, get_or-in, part-alike}

pub record Holds (s : List ℕ) (at : ℕ) (run : List ℕ) : Type 0 where
  pub fits : at + length run ≤ length s
  pub there : (i : ℕ) → i < length run → get_or s (at + i) 0 ≡ get_or run i 0

pub holds-overwrite : (s : List ℕ) (at : ℕ) (run : List ℕ) → at + length run ≤ length s → Holds (overwrite s at run) at run
holds-overwrite s at run h = record { fits = rw length-overwrite h; there = λ i k. get_or-in s at run i k h }

pub holds-take : (s : List ℕ) (n at : ℕ) (run : List ℕ) → Holds s at run → at + length run ≤ n → Holds (take n s) at run
holds-take s n at run h k =
    record { fits = simp length-take (omega (arith, h.fits)); there = λ i b. get_or-take n s (at + i) 0 (omega arith) ∙ h.there i b }

-- ---- a part of it
pub holds-part : (s : List ℕ) (at : ℕ) (run : List ℕ) → Holds s at run → (i n : ℕ) → i + n ≤ length run → part s (at + i) n ≡ part run i n
holds-part s at run h i n k =
    part-alike s run (at + i) i n (omega (arith, h.fits)) k
    (λ j q. let e : at + i + j ≡ at + (i + j) = omega arith in
    ap (λ m. get_or s m 0) e ∙ h.there (i + j) (omega arith))

pub holds-all : (s : List ℕ) (at : ℕ) (run : List ℕ) → Holds s at run → part s at (length run) ≡ run
unfolding part
holds-all s at run h =
    ap (λ m. part s m (length run)) (sym (add-zero at)) ∙ holds-part s at run h 0 (length run) (omega arith) ∙ take-length run

-- ---- two runs, one after the other
pub holds-left : (s : List ℕ) (at : ℕ) (a b : List ℕ) → Holds s at (a ++ b) → Holds s at a
holds-left s at a b h =
    record {
      fits = omega (arith, simp length-append at h.fits);
      there = λ i k. h.there i (simp length-append (omega arith)) ∙ get_or-append a b 0 i k;
    }

pub holds-right : (s : List ℕ) (at : ℕ) (a b : List ℕ) → Holds s at (a ++ b) → {n : ℕ} → at + length a ≡ n → Holds s n b
holds-right s at a b h {n} q =
    record {
      fits = omega (arith, simp length-append at h.fits);
      there = λ i k.
          let e : n + i ≡ at + (length a + i) = omega arith in
          ap (λ m. get_or s m 0) e ∙ h.there (length a + i) (simp length-append (omega arith)) ∙ get_or-append-add a b i 0;
    }

-- ---- a number
pub holds-number : (s : List ℕ) (at k v : ℕ) → Holds s at (to_le k v) → v < 256 ^ k → field s at k ≡ v
unfolding field
holds-number s at k v h b =
    ap (λ m. from_le (part s at m)) (sym (length-to_le k v)) ∙ ap from_le (holds-all s at (to_le k v) h) ∙ from_le-to_le k v b
