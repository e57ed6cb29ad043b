-- A sector's place, and what is known of its block, by what finding it answers.
use mathlib.Core.List.{List}
use mathlib.Core.Logic.Iff
use mathlib.Core.Path.{◌≡◌, sym, ap, ◌∙◌}
use Prim.Native.Nat.{ℕ}
use lib.IntN.{ℤ}
use Rattle.std.specs.Prelude.{Ok, Err, Some}
use Rattle.format.specs.declared.Pointer.{Pointer}
use Rattle.format.specs.declared.Refusal.{Refusal}
use Rattle.format.specs.Refusals.{answer}
use Rattle.format.specs.Layouts.{index_offset, entries}
use Rattle.format.specs.Opening.{Opened, opening}
use Rattle.format.specs.Reading.{entry_number, pointer_at, address_verdict, pointer_of, place_of, read_verdict, locate}
use Rattle.format.specs.Facts.{ItemOk}
use Rattle.format.proofs.Refusals.{row-iff, then-iff, answer-passes, answer-refuses, answer-accepted, answer-refused}
use Rattle.format.proofs.Checks.{SectorOk, sector-ok, verdict-opened}
use Rattle.opening.proofs.Accepted.{opens, opened-is}
use Rattle.sectors.specs.Found.{Known}

-- ---- in an image that opens to t
module _ (img : List ℕ) (t : Opened) (e : opening img ≡ Ok t) (a : ℤ) where
  verdict : read_verdict img (index_offset img) a ≡ address_verdict img (entries img (index_offset img)) t a
  verdict =
      verdict-opened img (index_offset img) (opens img t e) a
      ∙ ap (λ (u : Opened). address_verdict img (entries img (index_offset img)) u a) (opened-is img t e)

  pub locate-refused : (r : Refusal) → Err r ≡ answer (address_verdict img (entries img (index_offset img)) t a) (pointer_of img t a) → Err r ≡ locate img a
  unfolding locate
  locate-refused r f = sym (answer-refuses _ _ r (verdict ∙ answer-refused _ _ r (sym f)))

  module _ (p : Pointer) (f : Ok p ≡ answer (address_verdict img (entries img (index_offset img)) t a) (pointer_of img t a)) where
    found_ok : SectorOk img (entries img (index_offset img)) t (entry_number t a)
    unfolding address_verdict
    found_ok = ((then-iff (row-iff _ Iff.rfl) (sector-ok img _ t (entry_number t a))).0 (answer-accepted _ _ p (sym f)).0).1

    found-is : pointer_at img t (entry_number t a) ≡ p
    unfolding pointer_of
    found-is = (answer-accepted _ _ p (sym f)).1

    pub found-item : ItemOk img p.block.0 p.item.0
    found-item = rw (← found-is) found_ok.item

    -- its block is known from then on
    pub found-known : Known img (Some p.block)
    found-known =
        let k = found-item in
        record { indexed = rw (← found-is) found_ok.named; block = k.block; cmp_sum = k.cmp_sum; sum = k.sum }

    pub locate-found : Ok (place_of img p) ≡ locate img a
    unfolding locate pointer_of
    locate-found =
        ap (λ (q : Pointer). Ok (place_of img q)) (sym (ap (λ (u : Opened). pointer_of img u a) (opened-is img t e) ∙ found-is))
        ∙ sym (answer-passes _ _ (verdict ∙ (answer-accepted _ _ p (sym f)).0))
