-- `flattening::count_stored` meets its contract. The invariant: those of the first n addresses are counted. Assumes nothing.
use mathlib.Core.Path.{◌≡◌}
use Prim.Native.Nat.{ℕ}
use lib.ListN.{length}
use Rattle.pairs.specs.Sectors.{sector_of}
use Rattle.composing.specs.Composes.{stored_of}
use Rattle.flattening.proofs.count_stored.Given as goal

abbrev pub invariant-loop-n : goal.invariant-loop-n
invariant-loop-n l = (block : ℕ) → l.stored ≡ length (stored_of block (sector_of l.pair) l.n).items
