-- `search::among` meets its contract: the loops search through the sectors and compare the bytes of one. Assumes nothing.
use mathlib.Core.Path.{◌≡◌}
use Prim.Native.Nat.{◌-◌}
use lib.ListN.{length}
use Rattle.std.specs.Prelude.{None}
use Rattle.search.proofs.First.{Searching, Comparing}
use Rattle.search.proofs.Stored.{holds, goal}
use Rattle.search.proofs.among.Given as goal

abbrev pub invariant-loop-j : goal.invariant-loop-j
invariant-loop-j l =
    (l.found ≡ None) × Comparing (holds l.s l.first l.n l.sector) l.n (goal l.s l.first l.n l.sector) l.s l.sector l.i l.start l.j

abbrev pub decreases-loop-j : goal.decreases-loop-j
decreases-loop-j l = length l.sector - l.j

abbrev pub invariant-search : goal.invariant-search
invariant-search l = (l.found ≡ None) × Searching (holds l.s l.first l.n l.sector) l.n (goal l.s l.first l.n l.sector) l.i

abbrev pub decreases-search : goal.decreases-search
decreases-search l = l.n - l.i
