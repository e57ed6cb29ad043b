-- The numbers in a listing are short: refusals have at most two digits, and the sectors are at most as many as the image has room for.
-- Assumes nothing.
use mathlib.Core.List.{List}
use mathlib.Core.Logic.{⊎_elim}
use mathlib.Core.Path.{◌≡◌, ap}
use Prim.Native.Nat.{ℕ, ◌+◌, ◌*◌, ◌≤◌, ◌<◌}
use native.Mathlib.Omega.{arith}
use lib.IntN.{ℤ}
use lib.ListN.{length}
use Rattle.std.specs.Prelude.{Ok, Err}
use Rattle.format.specs.declared.AddressRange.{AddressRange}
use Rattle.format.specs.declared.Refusal.{Refusal}
use Rattle.format.specs.declared.TableKind.{TableKind}
use Rattle.format.specs.declared.TableKind.TheVariants.{First, Second}
use Rattle.format.specs.Layouts.{index_offset, table_header_length_of, entry_width}
use Rattle.format.specs.Opening.{opened, range_of, opening, sector_count}
use Rattle.format.specs.Reading.{locate}
use Rattle.format.proofs.Refusals.{answer-accepted, answer-passes}
use Rattle.format.proofs.Refusing.{demand-1-refusals}
use Rattle.opening.proofs.Accepted.{table-inside}

narrow : (k : TableKind) (at n : ℕ) {l : ℕ} → at + table_header_length_of k + entry_width k * n ≤ l → 49 + 4 * n ≤ l
narrow First at n h = omega arith
narrow Second at n h = omega arith

module _ (img : List ℕ) where
  pub count-refusal : (r : Refusal) → sector_count img ≡ Err r → r.number < 100
  count-refusal r e = ⊎_elim (λ f. omega arith) (λ f. omega arith) (demand-1-refusals.counting img r e).0

  pub locate-refusal : (a : ℤ) (r : Refusal) → locate img a ≡ Err r → r.number < 100
  locate-refusal a r e = ⊎_elim (λ f. ⊎_elim (λ g. omega arith) (λ g. omega arith) f) (λ f. ⊎_elim (λ g. omega arith) (λ g. omega arith) f) (demand-1-refusals.locating img a r e).0

  -- ---- the table lies in the image
  pub count-short : (s : AddressRange) → sector_count img ≡ Ok s → 49 + 4 * s.count ≤ length img
  unfolding sector_count opening range_of
  count-short s e =
      let p = answer-accepted _ _ s e in
      let t = opened img (index_offset img) in
      let f : 49 + 4 * (opened img (index_offset img)).count ≤ length img = narrow t.kind t.table t.count (table-inside img _ (answer-passes _ _ p.0)) in
      let c : (opened img (index_offset img)).count ≡ s.count = ap (λ (r : AddressRange). r.count) p.1 in
      omega arith
