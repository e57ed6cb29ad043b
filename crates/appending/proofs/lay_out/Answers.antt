-- `appending::lay_out` meets its contract. Assumes nothing.
use native.Mathlib.Omega.{arith}
use mathlib.Core.Path.{◌≡◌}
use Prim.Native.Nat.{ℕ, ◌+◌, ◌*◌, ◌≤◌}
use lib.ListN.{length}
use Rattle.format.specs.Layouts.{entry_count, entry_length, entries}
use Rattle.format.specs.Committing.{kept_entries}
use Rattle.opening.specs.Images.{held}
use Rattle.opening.proofs.Accepted.{opens, table-inside}
use Rattle.appending.proofs.Appended.{kept-few, layout_is}
use Rattle.appending.proofs.lay_out.Goals as goal
use Rattle.appending.proofs.lay_out.Goals.{After-count_kept-kept, Start}

inside : (c : Start) → (held c.args.image).table + 49 + 8 * (held c.args.image).count ≤ length c.args.image.bytes.now
inside c = rw c.requires.3 at (table-inside _ _ c.args.image.opens)

pub overflow_mul-index : goal.overflow_mul-index
overflow_mul-index c = omega (arith, inside (goal.at.overflow_mul-index c).Start)

pub overflow_add-index : goal.overflow_add-index
overflow_add-index c = omega (arith, inside (goal.at.overflow_add-index c).Start)

pub overflow_add-index-2 : goal.overflow_add-index-2
overflow_add-index-2 c = omega (arith, inside (goal.at.overflow_add-index-2 c).Start)

-- those of the image's own index are counted
kept : (c : After-count_kept-kept) → let s = c.args.image.bytes.now in let o = c.index.result.at.0 in
    ((table : ℕ) → c.count_kept-kept.result ≡ length (kept_entries table (entries s o))) × (c.count_kept-kept.result ≤ entry_count s o)
kept c = rw c.index.ensures.bytes at c.count_kept-kept.ensures

-- the entries that are kept are no longer than the image
kept-short : (c : After-count_kept-kept) → entry_length * c.count_kept-kept.result ≤ length c.args.image.bytes.now
kept-short c = kept-few _ c.index.ensures.at (kept c).1 (opens _ _ c.args.image.opens)

pub overflow_add-end : goal.overflow_add-end
overflow_add-end c = omega (arith, kept-short (goal.at.overflow_add-end c).After-count_kept-kept)

pub overflow_mul-end : goal.overflow_mul-end
overflow_mul-end c = omega (arith, kept-short (goal.at.overflow_mul-end c).After-count_kept-kept)

pub overflow_add-end-2 : goal.overflow_add-end-2
overflow_add-end-2 c = omega (arith, kept-short (goal.at.overflow_add-end-2 c).After-count_kept-kept)

pub overflow_add-end-3 : goal.overflow_add-end-3
overflow_add-end-3 c =
    omega (arith, kept-short (goal.at.overflow_add-end-3 c).After-count_kept-kept, inside (goal.at.overflow_add-end-3 c).Start)

pub returns : goal.returns
returns c =
    layout_is _ c.index.ensures.at _ _ _ (kept (goal.at.returns c).After-count_kept-kept).0 c.block_length.ensures.0 c.count.ensures c.block_entries.ensures.0
