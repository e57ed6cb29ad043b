-- The checks of a disc that is opened as t: opening's are behind.
use mathlib.Core.List.{List}
use mathlib.Core.Path.{◌≡◌, ap, ◌∙◌}
use Prim.Native.Nat.{ℕ}
use lib.IntN.{ℤ}
use Rattle.std.specs.Prelude.{Ok}
use Rattle.format.specs.Refusals.{refusal, row, ◌then◌}
use Rattle.format.specs.Layouts.{index_offset, entries}
use Rattle.format.specs.Opening.{Opened, opening}
use Rattle.format.specs.Writing.{is_second, writable_verdict}
use Rattle.format.specs.Committing.{any_outside, sectors_verdict, disc_verdict}
use Rattle.format.proofs.Refusals.{then-rest, then-assoc, answer-accepted}

pub disc-opened : (img : List ℕ) (t : Opened) (addresses : List ℤ) → opening img ≡ Ok t
    → disc_verdict img (index_offset img) addresses
    ≡ (row (is_second t.kind) (refusal 74 0) then (row (any_outside t addresses) (refusal 20 0) then sectors_verdict img (entries img (index_offset img)) t))
unfolding disc_verdict writable_verdict opening
disc-opened img t addresses e =
    let (v, o) = answer-accepted _ _ t e in
    then-assoc _ _ _ ∙ then-rest _ _ v
    ∙ ap (λ (u : Opened). row (is_second u.kind) (refusal 74 0) then (row (any_outside u addresses) (refusal 20 0) then sectors_verdict img (entries img (index_offset img)) u)) o
