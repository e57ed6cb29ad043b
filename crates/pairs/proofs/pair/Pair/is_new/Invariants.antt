-- `pairs::Pair::is_new` meets its contract. The invariant: none of the addresses from `below` on, below n, has the sector. Assumes nothing.
use mathlib.Core.Path.{◌≡◌}
use Rattle.pairs.specs.Pairs.{held_below}
use Rattle.pairs.specs.Sectors.{sector_of}
use Rattle.pairs.proofs.pair.Pair.is_new.Given as goal

abbrev pub invariant-loop-below : goal.invariant-loop-below
invariant-loop-below l = held_below (sector_of l.self) l.own l.below ≡ held_below (sector_of l.self) l.own l.initial.below
