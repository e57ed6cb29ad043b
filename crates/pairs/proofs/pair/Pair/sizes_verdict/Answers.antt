-- `pairs::Pair::sizes_verdict` meets its contract. Assumes nothing.
use Rattle.pairs.proofs.Written.{sizes-40, sizes-30, sizes-pass}
use Rattle.pairs.proofs.pair.Pair.sizes_verdict.Goals as goal

pub returns-then-any_other : goal.returns-then-any_other
returns-then-any_other c = rw c.of.ensures (sizes-40 _ _ c.requires.0 c.any_other.ensures c.if-any_other.true)

pub returns-then-is_over : goal.returns-then-is_over
returns-then-is_over c =
    let h = c.requires in
    rw c.of-then-is_over.ensures
    (sizes-30 _ _ h.0 c.any_other.ensures c.if-any_other.false h.1 _ c.args.self.child.opens c.count.ensures c.is_over.ensures
    c.if-is_over.true)

pub returns : goal.returns
returns c =
    let h = c.requires in
    sizes-pass _ _ h.0 c.any_other.ensures c.if-any_other.false h.1 _ c.args.self.child.opens c.count.ensures c.is_over.ensures
    c.if-is_over.false
