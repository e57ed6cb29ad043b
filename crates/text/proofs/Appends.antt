-- Laws of `Appends`: how texts that are written one after the other join.
-- Assumes nothing.
use mathlib.Core.List.{List, [], ◌∷◌, ◌++◌}
use mathlib.Core.Path.{refl, ◌∙◌}
use Prim.Native.Nat.{ℕ, ◌+◌, ◌≤◌, ◌<◌}
use native.Mathlib.Numerals.{add-one}
use native.Mathlib.Omega.{arith}
use lib.ListN.{length, take, get_or}
use lib.Seq.{take-suc, take_all}
use Rattle.text.specs.declared.Writer.{Writer}
use Rattle.text.specs.Appends.{Appends}
use Rattle.text.proofs.Writes.{writes-none, writes-full, writes_then}

-- nothing is written
pub appends-none : (v : Writer) → Appends v [] v
appends-none v = record { lent = refl; written = writes-none _ _ v.inside }

-- at the end nothing changes
pub appends-full : (v : Writer) (x : List ℕ) → length v.out.now ≤ v.at → Appends v x v
appends-full v x h = let i = v.inside in record { lent = refl; written = writes-full _ _ _ (omega arith) }

-- one text after the other
pub appends_then : {u v w : Writer} {x y : List ℕ} → Appends u x v → Appends v y w → Appends u (x ++ y) w
appends_then p q = record { lent = q.lent ∙ p.lent; written = writes_then p.written q.written }

-- ---- a loop over the bytes of a text
module _ {u v : Writer} (x : List ℕ) (i : ℕ) (p : Appends u (take i x) v) where
  pub appends-next : {w : Writer} → i < length x → Appends v (get_or x i 0 ∷ []) w → Appends u (take (i + 1) x) w
  appends-next h q = rw (add-one, take-suc x i 0 h) (appends_then p q)

  pub appends-end : length x ≤ i → Appends u x v
  appends-end h = rw take_all at p
