-- `planning::is_next` meets its contract. Assumes nothing.
use borrow.Author.Rules.{rules}
use borrow.Author.Tests.{le-ltb}
use mathlib.Core.Path.{◌∙◌}
use Rattle.planning.proofs.Next.{next_past, next-at}
use Rattle.planning.proofs.is_next.Goals as goal

pub returns-else-k-addresses : goal.returns-else-k-addresses
returns-else-k-addresses c = le-ltb _ _ c.if-k-addresses.false ∙ next_past _ _ _ _ c.if-k-addresses.false

pub returns-then-k-addresses : goal.returns-then-k-addresses
returns-then-k-addresses c =
    next-at _ _ _ _ c.if-k-addresses.true c.requires.0 _ c.address.ensures (search rules) (search rules)
