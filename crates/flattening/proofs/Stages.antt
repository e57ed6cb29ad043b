-- A flattening's checks one after another: the one that stops it.
use mathlib.Core.List.{List, [], ◌∷◌}
use mathlib.Core.Path.{◌≡◌, refl, sym, ap, ◌∙◌}
use Prim.Native.Nat.{ℕ}
use native.Mathlib.Omega.{arith}
use lib.ListN.{length}
use Rattle.std.specs.Prelude.{Ok, Err}
use Rattle.format.specs.declared.Refusal.{Refusal}
use Rattle.format.specs.declared.TableKind.TheVariants.{First}
use Rattle.format.specs.Refusals.{refusal, row, ◌then◌}
use Rattle.format.specs.Layouts.{index_offset}
use Rattle.format.specs.Opening.{Opened, opening}
use Rattle.format.specs.Writing.{is_second, writable_verdict}
use Rattle.format.specs.Answers.{answered}
use Rattle.format.specs.Flattening.{count_of, Written, written_of, pair_verdict, sizes_verdict, lent_verdict, flatten_verdict, flatten}
use Rattle.format.proofs.Refusals.{row-iff, then-rest, answer-accepted, answer-refused}
use Rattle.format.proofs.Checks.{second-iff}
use Rattle.format.proofs.Chains.{stops, goes}
use Rattle.format.proofs.Answers.{outcome-stops}
use Rattle.format.proofs.Flattening.{flatten-is}

module _ (buffer child parent application : List ℕ) where
  -- a refusal of the checks is the call's
  pub flatten-stops : (major minor mediaType creationTime lastWrittenTime : ℕ) {r : Refusal} → Err r ≡ flatten_verdict buffer child parent application
      → answered (Err r) buffer ≡ flatten buffer child parent application major minor mediaType creationTime lastWrittenTime
  flatten-stops major minor mediaType creationTime lastWrittenTime e =
      outcome-stops buffer _ _ (stops _ e) ∙ sym (flatten-is buffer child parent application major minor mediaType creationTime lastWrittenTime)

  -- 31 and 33
  pub lent-stops : {r : Refusal} → Err r ≡ lent_verdict buffer application → Err r ≡ flatten_verdict buffer child parent application
  unfolding flatten_verdict
  lent-stops e = stops _ e

  module _ (l : lent_verdict buffer application ≡ Ok tt) where
    -- the child's opening numbers
    pub child-stops : {r : Refusal} → Err r ≡ opening child → Err r ≡ flatten_verdict buffer child parent application
    unfolding flatten_verdict writable_verdict opening
    child-stops {r} e = goes (sym l) (stops _ (stops _ (sym (answer-refused _ _ r (sym e)))))

    module _ (t : Opened) (o : opening child ≡ Ok t) where
      writable-is : writable_verdict child (index_offset child) ≡ row (is_second t.kind) (refusal 74 0)
      unfolding writable_verdict opening
      writable-is = let q = answer-accepted _ _ t o in then-rest _ _ q.0 ∙ ap (λ (u : Opened). row (is_second u.kind) (refusal 74 0)) q.1

      -- 74
      pub kind-stops : {r : Refusal} → Err r ≡ row (is_second t.kind) (refusal 74 0) → Err r ≡ flatten_verdict buffer child parent application
      unfolding flatten_verdict
      kind-stops e = goes (sym l) (stops _ (e ∙ sym writable-is))

      module _ (k : t.kind ≡ First) where
        -- what is left behind it
        pub rest-is : flatten_verdict buffer child parent application ≡ (pair_verdict child parent then sizes_verdict (count_of child) (written_of child parent))
        unfolding flatten_verdict
        rest-is = then-rest _ _ l ∙ then-rest _ _ (writable-is ∙ (row-iff (refusal 74 0) (second-iff t.kind)).1 k)

-- no sector
pub none : (ws : List Written) → length ws ≡ 0 → ws ≡ []
none [] e = refl
none (w ∷ ws) e = absurd (omega arith)
