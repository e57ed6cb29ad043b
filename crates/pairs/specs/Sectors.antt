-- The pair of images in the terms of the definitions.
use Rattle.std.specs.Prelude.{List, ℕ}
use Rattle.format.specs.Flattening.{Written, written_of}
use Rattle.pairs.specs.declared.pair.Pair.{Pair}
use Rattle.pairs.specs.Pairs.{sector_at}

-- its sector at address n of the child, empty where it has none
abbrev pub sector_of : Pair → ℕ → List ℕ
sector_of pair = sector_at pair.child.bytes.now pair.parent.bytes.now

-- the sectors that it has, by rising address
abbrev pub written_in : Pair → List Written
written_in pair = written_of pair.child.bytes.now pair.parent.bytes.now
