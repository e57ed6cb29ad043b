-- `appending::block_entries` meets its contract. Assumes nothing.
use native.Mathlib.Omega.{arith}
use mathlib.Core.Path.{sym, ap}
use lib.ListN.{length}
use Rattle.format.proofs.Ends.{entry-none, entry-some}
use Rattle.appending.proofs.block_entries.Goals as goal

pub returns-then-stored-eq0 : goal.returns-then-stored-eq0
returns-then-stored-eq0 c = ((λ block. sym (ap length (entry-none block _ c.if-stored-eq0.true))), omega arith)

pub returns : goal.returns
returns c = ((λ block. sym (ap length (entry-some block _ c.if-stored-eq0.false))), omega arith)
