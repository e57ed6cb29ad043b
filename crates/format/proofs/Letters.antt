-- 6/13: what the tests of identifiers say of an image's bytes.
use mathlib.Core.List.{List}
use mathlib.Core.Path.{◌≡◌, sym, ◌∙◌}
use Prim.Native.Nat.{ℕ, ◌+◌, ◌≤◌}
use native.Mathlib.Omega.{arith}
use lib.ListN.{length}
use Rattle.fields.specs.Bytes.{part, to_le}
use Rattle.format.specs.Lists.{IsBytes}
use Rattle.format.specs.Layouts.{entry_length, entry_at}
use Rattle.format.specs.Facts.{Identified}
use Rattle.format.specs.Demands.{LettersTested}
use Rattle.format.proofs.Checks.{lacks-iff}
use Rattle.format.proofs.Named.{type-on, type-true}
use Rattle.format.proofs.Bytes.{field-bytes}

-- an entry's four bytes are those that stand in the image
entry-bytes : (img : List ℕ) → IsBytes img → (p : ℕ) → p + entry_length ≤ length img → to_le 4 (entry_at img p).blockType ≡ part img p 4
unfolding entry_at
entry-bytes img h p l = field-bytes h p 4 (omega arith)

pub letters-tested : LettersTested
unfolding Identified
letters-tested img h letters =
    record {
      at_place = λ at. lacks-iff img at letters;
      in_entry = λ p l.
          let e = entry-bytes img h p l in
          (λ k. sym e ∙ type-on letters (entry_at img p) k, λ k. type-true letters (entry_at img p) (e ∙ k));
    }
