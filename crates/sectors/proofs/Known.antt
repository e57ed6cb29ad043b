-- A block of which something is known: what is left to check of a pointer into it.
use mathlib.Core.Bool.{true, true≢false}
use mathlib.Core.List.{List}
use mathlib.Core.Path.{◌≡◌, sym, subst}
use Prim.Native.Nat.{ℕ, ◌/◌}
use Rattle.std.specs.Prelude.{Option, Some, None, IfSome}
use Rattle.format.specs.declared.ByteOffset.{ByteOffset}
use Rattle.format.specs.declared.Pointer.{Pointer}
use Rattle.format.specs.Tests.{at_least}
use Rattle.format.specs.Refusals.{refusal, row}
use Rattle.format.specs.Layouts.{index_offset, entries, block_length, sector_size}
use Rattle.format.specs.Opening.{sums_differ}
use Rattle.format.specs.Reading.{item_verdict, pointer_verdict}
use Rattle.format.proofs.Tests.{not_iff, same-on, differs-iff, or-iff}
use Rattle.format.proofs.Checks.{block-ok}
use Rattle.format.proofs.Chains.{on, on-last, goes, ends}
use Rattle.sectors.specs.Found.{Intact, is_known}

-- the block at b is the one that is known
pub known-block : (P : ℕ → Type 0) (known : Option ByteOffset) (b : ℕ) → IfSome known (λ (k : ByteOffset). P k.0) → is_known known b ≡ true → P b
unfolding is_known
known-block P None b p e = absurd (true≢false (sym e))
known-block P (Some k) b p e = subst P (sym (same-on b k.0 e)) p

-- of an intact block's item only the check of its number is left
pub known-verdict : (img : List ℕ) (at : ℕ) (p : Pointer) → Intact img p.block.0
    → row (at_least p.item.0 (block_length img p.block.0 / sector_size img p.block.0)) (refusal 26 p.block.0)
    ≡ pointer_verdict img (entries img (index_offset img)) at p
unfolding pointer_verdict item_verdict sums_differ
known-verdict img at p k =
    on _ (not_iff.1 k.indexed)
    (goes (sym ((block-ok img p.block.0).1 k.block)) (ends _ (on-last _ ((or-iff differs-iff differs-iff).1 (k.cmp_sum, k.sum)))))
