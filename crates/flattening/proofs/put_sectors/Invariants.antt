-- `flattening::put_sectors` meets its contract. The invariant: those stored for the first n addresses stand. Assumes nothing.
use Rattle.opening.specs.Images.{held}
use Rattle.pairs.specs.Sectors.{sector_of}
use Rattle.composing.proofs.Entries.{Standing}
use Rattle.flattening.proofs.put_sectors.Given as goal

abbrev pub invariant-loop-n : goal.invariant-loop-n
invariant-loop-n l = Standing l.initial.buf l.buf (sector_of l.pair) (held l.pair.child).count l.most l.stored l.n
