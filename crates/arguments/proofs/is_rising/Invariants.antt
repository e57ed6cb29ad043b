-- `arguments::is_rising` meets its contract. The invariant: the addresses from k - 1 on are rising exactly if all are. Assumes nothing.
use mathlib.Core.Path.{◌≡◌}
use Prim.Native.Nat.{◌<◌}
use Rattle.format.specs.Committing.{rising}
use Rattle.arguments.proofs.Rising.{remaining}
use Rattle.arguments.proofs.is_rising.Given as goal

abbrev pub invariant-loop-k : goal.invariant-loop-k
invariant-loop-k l = (0 < l.k) × (remaining l.addresses l.k ≡ rising l.addresses)
