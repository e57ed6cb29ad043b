use mathlib.Core.Path.{sym}
use native.Mathlib.Omega.{arith}
use borrow.Author.Count.{below_more}
use Rattle.checking.proofs.Firsts.{refused-at, refused_none}
use Rattle.flat.proofs.Sectors.{size-gap, size_same, size-other}
use Rattle.flat.proofs.sizes_verdict.Goals as goal
use Rattle.flat.proofs.sizes_verdict.Goals.{in-Some+else-p-size, in_default}

pub returns-then-p-size : goal.returns-then-p-size
returns-then-p-size c =
    rw c.of.ensures
    (sym (refused-at _ _ _ _ (omega arith) c.loop-n.invariant
    (size-other _ _ _ c.in-Some.ensures c.requires.1 c.if-p-size.true)))

pub loop-n-preserved : goal.loop-n-preserved
loop-n-preserved c =
    below_more _ _ c.loop-n.invariant
    (elim c.match-slot_at.branch [
      | in-Some+else-p-size w ↦ size_same _ _ _ w.in-Some.ensures c.requires.1 w.if-p-size.false
      | in_default w ↦ size-gap _ _ _ w.in_default.ensures
    ])

pub returns : goal.returns
returns c = sym (refused_none _ _ (λ i h. c.loop-n.invariant i (omega arith)))
