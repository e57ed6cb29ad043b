-- `appending::append` meets its contract. Assumes nothing.
use native.Mathlib.Omega.{arith}
use Rattle.fields.specs.Bytes.{part}
use Rattle.appending.proofs.Appended.{image-inside, inside, first, commits, planned-few, refused-35, fits-answers}
use Rattle.appending.proofs.append.Goals as goal

pub part-requires : goal.part-requires
part-requires c = omega (arith, image-inside _ _ _ _ _ _ c.requires)

pub invariant_of-image : goal.invariant_of-image
unfolding part
invariant_of-image c = record { opens = rw c.part.ensures c.requires.opens }

pub plan-plan-requires : goal.plan-plan-requires
unfolding part
plan-plan-requires c = let f = c.requires in rw c.part.ensures (commits _ _ _ _ _ _ f, inside _ _ _ _ _ _ f)

pub lay_out-at-requires : goal.lay_out-at-requires
unfolding part
lay_out-at-requires c =
    let f = c.requires in
    let k = commits _ _ _ _ _ _ f in
    rw c.part.ensures (k.short, planned-few f (rw c.part.ensures at c.plan-plan.ensures), k.small, first _ _ _ _ _ _ f)

pub returns-then-length-end : goal.returns-then-length-end
unfolding part
returns-then-length-end c =
    rw c.of.ensures
    (refused-35 c.requires (rw c.part.ensures at c.plan-plan.ensures) _
    (rw c.part.ensures at c.lay_out-at.ensures) (omega arith))

pub put_all-requires : goal.put_all-requires
unfolding part
put_all-requires c =
    record {
      passed = c.requires;
      planned = rw c.part.ensures at c.plan-plan.ensures;
      laid = rw c.part.ensures at c.lay_out-at.ensures;
      room = omega arith;
    }

pub returns : goal.returns
unfolding part
returns c =
    fits-answers
    (record {
      passed = c.requires;
      planned = rw c.part.ensures at c.plan-plan.ensures;
      laid = rw c.part.ensures at c.lay_out-at.ensures;
      room = omega arith;
    })
    _ c.put_all.ensures
