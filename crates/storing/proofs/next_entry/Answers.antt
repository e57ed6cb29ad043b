-- `storing::next_entry` meets its contract. Assumes nothing.
use native.Mathlib.Omega.{arith}
use mathlib.Core.Bool.{true}
use mathlib.Core.Path.{◌≡◌}
use Rattle.format.proofs.Chains.{by}
use Rattle.format.specs.Committing.{entry_numbers}
use Rattle.opening.specs.Answers.{contents}
use Rattle.planning.specs.Plans.{is_next}
use Rattle.planning.proofs.Next.{entry-small}
use Rattle.storing.proofs.Turns.{listed, handed-inside, steps, encodes, handed-in, old-readable, kept}
use Rattle.storing.proofs.next_entry.Goals as goal
use Rattle.storing.proofs.next_entry.Goals.{After-store-arg-1}

-- the address is the next one, from here on
is-next : (c : After-store-arg-1) → (let s = c.args in is_next (entry_numbers (contents s.t) s.addresses.now) s.k s.a.0 ≡ true)
is-next c = by c.is_next.ensures c.if-is_next.true

pub overflow_mul-handed : goal.overflow_mul-handed
overflow_mul-handed c = omega (arith, handed-inside c.requires.0 (is-next (goal.at.overflow_mul-handed c).After-store-arg-1))

pub part-requires : goal.part-requires
part-requires c = handed-inside c.requires.0 (is-next (goal.at.part-requires c).After-store-arg-1)

pub store-step-requires : goal.store-step-requires
store-step-requires c = steps c.requires.0 (is-next (goal.at.store-step-requires c).After-store-arg-1) c.part.ensures

pub encode-requires : goal.encode-requires
encode-requires c =
    encodes c.requires.0 (is-next (goal.at.encode-requires c).After-store-arg-1) c.part.ensures c.store-step.ensures

pub overflow_add-result : goal.overflow_add-result
overflow_add-result c =
    let h = c.requires.0 in
    omega (arith, listed h (is-next (goal.at.overflow_add-result c).After-store-arg-1), h.commits.few)

pub returns-then-is_next : goal.returns-then-is_next
returns-then-is_next c =
    handed-in c.requires.0 (is-next (goal.at.returns-then-is_next c).After-store-arg-1) c.part.ensures c.store-step.ensures
    c.encode.ensures

pub invariant_of-image : goal.invariant_of-image
invariant_of-image c = record { opens = (old-readable c.requires.0 (by c.is_next.ensures c.if-is_next.false) c.part-2.ensures).0.0 }

pub old_entry-requires : goal.old_entry-requires
old_entry-requires c =
    old-readable c.requires.0 (by c.is_next.ensures c.if-is_next.false) c.part-2.ensures

pub returns : goal.returns
returns c =
    kept c.requires.0 (by c.is_next.ensures c.if-is_next.false) c.part-2.ensures c.old_entry.ensures

pub is_next-requires : goal.is_next-requires
is_next-requires c = let p = c.requires in (p.1, entry-small p.0.commits p.0.below)
