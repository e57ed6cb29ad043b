-- What an accepted opening leaves to be used: the places that reading looks at lie inside the image.
use mathlib.Core.List.{List}
use mathlib.Core.Path.{◌≡◌, subst}
use Prim.Native.Nat.{ℕ, ◌+◌, ◌*◌, ◌≤◌, ◌<◌}
use native.Mathlib.Omega.{arith}
use lib.ListN.{length}
use Rattle.std.specs.Prelude.{Ok}
use Rattle.format.specs.declared.TableKind.{TableKind}
use Rattle.format.specs.declared.TableKind.TheVariants.{First, Second}
use Rattle.format.specs.Layouts.{index_offset, table_header_length_of, entry_width}
use Rattle.format.specs.Opening.{Opened, opened_as, opened, opening}
use Rattle.format.specs.Reading.{table_entry_at}
use Rattle.format.proofs.Refusals.{answer-accepted}
use Rattle.format.proofs.Checks.{OpenOk, open-ok, first_flat}
use Rattle.format.proofs.Agree.{opened-entry}
use Rattle.opening.specs.Answers.{Decodes}

four-each : (k : TableKind) (n : ℕ) → 4 * n ≤ entry_width k * n
four-each First n = omega arith
four-each Second n = omega arith

module _ (img : List ℕ) (t : Opened) (e : opening img ≡ Ok t) where
  pub opens : OpenOk img (index_offset img)
  unfolding opening
  opens = (open-ok img (index_offset img)).0 (answer-accepted _ _ t e).0

  pub opened-is : opened img (index_offset img) ≡ t
  unfolding opening
  opened-is = (answer-accepted _ _ t e).1

  pub table-inside : t.table + table_header_length_of t.kind + entry_width t.kind * t.count ≤ length img
  unfolding opened opened_as
  table-inside = rw (← opened-is) (omega (arith, opens.table.fits, opens.table.whole))

  -- so there are not many
  pub few : 4 * t.count ≤ length img
  few = let w = four-each t.kind t.count in let i = table-inside in omega arith

  -- a table entry, of either kind
  pub entry-inside : (n : ℕ) → n < t.count → table_entry_at t n + entry_width t.kind ≤ length img
  entry-inside n h = subst (λ (u : Opened). n < u.count → table_entry_at u n + entry_width u.kind ≤ length img) opened-is within h
    where
      within : n < (opened img (index_offset img)).count → table_entry_at (opened img (index_offset img)) n + entry_width (opened img (index_offset img)).kind ≤ length img
      within k = opened-entry img (index_offset img) opens n k

  pub decodes : Decodes t
  unfolding opened opened_as
  decodes =
      subst Decodes opened-is
      (record { shift = opens.table.shift; alignment = opens.table.alignment; flat = λ e. (first_flat img (index_offset img) e).1 })
