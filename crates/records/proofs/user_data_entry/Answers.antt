-- `records::user_data_entry` meets its contract. Assumes nothing.
use borrow.Author.Rules.{rules}
use mathlib.Core.Path.{◌≡◌, ap, ◌∙◌}
use Prim.Native.Nat.{ℕ}
use lib.ListN.{length}
use Rattle.fields.specs.Bytes.{part, field, from_le}
use Rattle.fields.proofs.Overwrite.{part-whole}
use Rattle.format.specs.Layouts.{tag}
use Rattle.records.proofs.user_data_entry.Goals as goal

pub returns : goal.returns
unfolding tag field
returns c =
    let a = c.args in
    let n : 4 ≡ length a.letters.now = search rules in
    let e : c.get-blockType.result ≡ tag a.letters.now = c.get-blockType.ensures ∙ ap from_le (ap (λ (k : ℕ). part a.letters.now 0 k) n ∙ part-whole _) in
    λ i. record { blockType = e i; dataType = 1; offset = a.offset }
