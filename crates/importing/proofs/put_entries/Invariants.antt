-- `importing::put_entries` meets its contract. The invariant: what is written for the first a sectors stands. Assumes nothing.
use Rattle.planning.specs.Plans.{sector_of}
use Rattle.composing.proofs.Entries.{Going}
use Rattle.importing.proofs.put_entries.Given as goal

abbrev pub invariant-loop-a : goal.invariant-loop-a
invariant-loop-a l = Going l.initial.buf l.buf (sector_of l.size l.file) l.count l.size l.at l.stored l.a
