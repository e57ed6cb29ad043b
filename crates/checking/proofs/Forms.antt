-- The checks of a pointer and of a block before that of the checksums, and an address while blocks are still to be looked at.
use mathlib.Core.Bool.{Bool, true, false, true≢false}
use mathlib.Core.List.{List}
use mathlib.Core.Logic.Iff
use mathlib.Core.Logic.{◌≢◌, inl, ◌↔◌}
use mathlib.Core.Path.{◌≡◌, refl, sym, ap, ◌∙◌}
use Prim.Native.Nat.{ℕ, ◌+◌, ◌/◌, ◌%◌, ◌≤◌, ◌<◌}
use lib.ListN.{length}
use Rattle.std.specs.Prelude.{Ok, Err, is_ok}
use Rattle.format.specs.declared.Pointer.{Pointer}
use Rattle.format.specs.Refusals.{refusal, ◌then◌, Verdict}
use Rattle.format.specs.Layouts.{sector_size, block_header_length, block_compression, block_data_type, block_length, block_cmp_length}
use Rattle.format.specs.Opening.{Opened}
use Rattle.format.specs.Reading.{table_entry_at, pointer_at, has, block_verdict}
use Rattle.format.specs.Facts.{BlockOk}
use Rattle.format.proofs.Tests.{not_iff, at_least-iff, and-iff, choose-true, choose-false}
use Rattle.format.proofs.Refusals.{row-iff, then-iff}
use Rattle.format.proofs.Checks.{block-ok}
use Rattle.format.proofs.Chains.{on-last}
use Rattle.checking.specs.Checked.{indexed, form_verdict, entry_form, wrong_sum, only_after, damaged, mark, looked_verdict}

-- ---- a pointer, but for the checksums
pub form-ok : (img : List ℕ) (at : ℕ) (p : Pointer) → (form_verdict img at p ≡ Ok tt)
    ↔ ((has p.block.0 (indexed img) ≡ true) × (BlockOk img p.block.0 × (p.item.0 < block_length img p.block.0 / sector_size img p.block.0)))
unfolding form_verdict
form-ok img at p = then-iff (row-iff _ not_iff) (then-iff (block-ok img p.block.0) (row-iff _ at_least-iff))

-- a table entry: what passes points into a well-formed block that is indexed
pub entry-form-ok : (img : List ℕ) (t : Opened) (n : ℕ) → entry_form img t n ≡ Ok tt
    → (has (pointer_at img t n).block.0 (indexed img) ≡ true) × BlockOk img (pointer_at img t n).block.0
unfolding entry_form
entry-form-ok img t n e = let k = ((then-iff (row-iff (refusal 73 0) Iff.rfl) (form-ok img (table_entry_at t n) (pointer_at img t n))).0 e).1 in (k.0, k.1.0)

-- ---- a damaged block
passed : (v : Verdict) → is_ok v ≡ true → v ≡ Ok tt
passed (Ok tt) e = refl
passed (Err r) e = absurd (true≢false (sym e))

refused : (v : Verdict) (d : Bool) → is_ok v ≡ false → false ≡ only_after v d
unfolding only_after
refused (Ok tt) d e = absurd (true≢false e)
refused (Err r) d e = refl

module _ (img : List ℕ) (b : ℕ) where
  pub well_formed : is_ok (block_verdict img b) ≡ true → BlockOk img b
  well_formed e = (block-ok img b).0 (passed _ e)

  pub damaged-refused : is_ok (block_verdict img b) ≡ false → false ≡ damaged img b
  unfolding damaged
  damaged-refused e = refused (block_verdict img b) (wrong_sum img b) e

  pub damaged-passed : {r : Bool} → BlockOk img b → r ≡ wrong_sum img b → r ≡ damaged img b
  unfolding damaged only_after
  damaged-passed k e = e ∙ ap (λ (v : Verdict). only_after v (wrong_sum img b)) (sym ((block-ok img b).1 k))

  -- with its premise, by which `grind` finds the block
  pub formed : is_ok (block_verdict img b) ≡ true
      → (is_ok (block_verdict img b) ≡ true) × (b + block_header_length ≤ length img) × (block_compression img b ≡ 0) × (block_data_type img b ≡ 1)
      × (sector_size img b ≢ 0) × (block_cmp_length img b ≡ block_length img b) × (block_length img b % sector_size img b ≡ 0)
      × (b + block_header_length + block_length img b ≤ length img)
  formed e = let k = well_formed e in (e, k.head, k.compression, k.type, k.size, k.unpacked, k.whole, k.fits)

  pub sums_tell : is_ok (block_verdict img b) ≡ true → wrong_sum img b ≡ damaged img b
  sums_tell e = damaged-passed (well_formed e) refl

-- what `is_damaged` answers, for its proof to find
pub ruleset damage = (formed, damaged-refused, sums_tell)

-- ---- an address
module _ (img : List ℕ) (t : Opened) (looks : ℕ → Bool) where
  pub looked-at : (left : List ℕ) (a : ℕ) → looks a ≡ true
      → looked_verdict img t looks left a ≡ (entry_form img t a then mark img left (pointer_at img t a).block.0)
  unfolding looked_verdict
  looked-at left a e = choose-true _ _ _ e

  pub passed_over : (left : List ℕ) (a : ℕ) → looks a ≡ false → looked_verdict img t looks left a ≡ Ok tt
  unfolding looked_verdict
  passed_over left a e = choose-false _ _ _ e

  -- while all blocks are still to be looked at, the form alone
  pub form-only : (a : ℕ) → looks a ≡ true → looked_verdict img t looks (indexed img) a ≡ entry_form img t a
  unfolding ◌then◌
  form-only a e = looked-at (indexed img) a e ∙ alone _ refl
    where
      alone : (v : Verdict) → entry_form img t a ≡ v → (v then mark img (indexed img) (pointer_at img t a).block.0) ≡ v
      alone (Ok tt) q = sym (on-last _ ((and-iff not_iff Iff.rfl).1 (inl (entry-form-ok img t a q).0)))
      alone (Err r) q = refl
