-- `planning::look_at` meets its contract. Assumes nothing.
use mathlib.Core.Path.{sym, ◌∙◌}
use Rattle.format.proofs.Tests.{choose-true, choose-false}
use Rattle.format.proofs.Chains.{by}
use Rattle.planning.specs.Plans.{looked_at}
use Rattle.planning.proofs.Looking.{next-looks}
use Rattle.planning.proofs.Next.{entry-small}
use Rattle.planning.proofs.look_at.Goals as goal

pub is_next-requires : goal.is_next-requires
is_next-requires c = let p = c.requires in (p.1, entry-small p.0 p.2)

pub old_item-requires : goal.old_item-requires
old_item-requires c = c.requires.2

pub look-requires : goal.look-requires
look-requires c =
    next-looks _ c.args.a.0 _ c.requires.0 (by c.is_next.ensures c.if-is_next.true) c.requires.3

pub returns-then-is_next : goal.returns-then-is_next
unfolding looked_at
returns-then-is_next c = c.look.ensures ∙ sym (choose-true _ _ _ (by c.is_next.ensures c.if-is_next.true))

pub returns : goal.returns
unfolding looked_at
returns c = (rw c.old_item.ensures) ∙ sym (choose-false _ _ _ (by c.is_next.ensures c.if-is_next.false))
