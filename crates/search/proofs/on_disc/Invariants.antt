-- `search::on_disc` meets its contract: the loops search through the addresses and compare the bytes of one. Assumes nothing.
use mathlib.Core.Path.{◌≡◌}
use Prim.Native.Nat.{◌-◌}
use lib.ListN.{length}
use Rattle.format.specs.Committing.{holds_sector, on_disc}
use Rattle.opening.specs.Images.{held}
use Rattle.search.proofs.First.{Searching, Comparing}
use Rattle.search.proofs.on_disc.Given as goal

abbrev pub invariant-loop-j : goal.invariant-loop-j
invariant-loop-j l =
    (l.a ≡ l.initial.a) × Comparing (holds_sector l.s (held l.image) l.sector) l.image.found.count (on_disc l.s (held l.image) l.sector) l.s l.sector l.a l.start l.j

abbrev pub decreases-loop-j : goal.decreases-loop-j
decreases-loop-j l = length l.sector - l.j

abbrev pub invariant-loop-a : goal.invariant-loop-a
invariant-loop-a l =
    Searching (holds_sector l.s (held l.image) l.sector) l.image.found.count (on_disc l.s (held l.image) l.sector) l.a
