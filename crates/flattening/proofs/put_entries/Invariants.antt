-- `flattening::put_entries` meets its contract. The invariant: what is written for the first n addresses stands. Assumes nothing.
use Rattle.format.specs.Flattening.{size_of}
use Rattle.opening.specs.Images.{held}
use Rattle.pairs.specs.Sectors.{sector_of, written_in}
use Rattle.composing.proofs.Entries.{Going}
use Rattle.flattening.proofs.put_entries.Given as goal

abbrev pub invariant-loop-n : goal.invariant-loop-n
invariant-loop-n l =
    Going l.initial.buf l.buf (sector_of l.pair) (held l.pair.child).count (size_of (written_in l.pair)) l.at l.stored l.n
