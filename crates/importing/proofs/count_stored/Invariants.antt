-- `importing::count_stored` meets its contract. The invariant: those of the first k sectors are counted. Assumes nothing.
use mathlib.Core.Path.{◌≡◌}
use Prim.Native.Nat.{ℕ, ◌≤◌}
use lib.ListN.{length}
use Rattle.planning.specs.Plans.{sector_of}
use Rattle.composing.specs.Composes.{stored_of}
use Rattle.importing.proofs.count_stored.Given as goal

abbrev pub invariant-loop-k : goal.invariant-loop-k
invariant-loop-k l = (l.k ≤ l.count) × ((block : ℕ) → l.stored ≡ length (stored_of block (sector_of l.size l.file) l.k).items)
