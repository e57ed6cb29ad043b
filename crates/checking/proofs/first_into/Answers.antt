use borrow.Author.Rules.{rules}
use mathlib.Core.Logic.{◌≢◌}
use native.Mathlib.Omega.{arith}
use borrow.Author.Count.{below_more}
use mathlib.Core.Path.{◌≡◌, ap, ◌∙◌}
use Rattle.format.specs.declared.Pointer.{Pointer}
use Rattle.format.specs.Reading.{pointer_at}
use Rattle.format.proofs.Tests.{never}
use Rattle.format.proofs.Chains.{by}
use Rattle.opening.specs.Images.{held}
use Rattle.opening.proofs.Accepted.{few, decodes}
use Rattle.opening.proofs.Entries.{pointer_is}
use Rattle.checking.specs.Checked.{looked_at}
use Rattle.checking.proofs.Looked.{found, stays}
use Rattle.checking.proofs.Scopes.{looked-is}
use Rattle.checking.proofs.first_into.Goals as goal
use Rattle.checking.proofs.first_into.Goals.{After-decoded, After-is_looked_at}

pub loop-a-init : goal.loop-a-init
loop-a-init c = (omega arith, λ i l. absurd (omega arith))

pub table_entry-e-requires : goal.table_entry-e-requires
table_entry-e-requires c = omega (arith, c.requires.0)

pub is_looked_at-requires : goal.is_looked_at-requires
is_looked_at-requires c =
    let f = few _ _ c.args.image.opens in omega (arith, f, c.requires.0)

pub decoded-requires : goal.decoded-requires
decoded-requires c = decodes _ _ c.args.image.opens

-- whether it is looked at, and where it points
looks : (c : After-is_looked_at)
    → let r = c.args in
    c.is_looked_at.result ≡ looked_at r.image.bytes.now (held r.image) r.scope c.loop-a.a
looks c = looked-is _ _ _ _ c.table_entry-e.ensures c.is_looked_at.ensures

block-is : (c : After-decoded)
    → let r = c.args in
    c.decoded.result.block.0 ≡ (pointer_at r.image.bytes.now (held r.image) c.loop-a.a).block.0
block-is c = ap (λ (q : Pointer). q.block.0) (pointer_is _ _ _ c.table_entry-e.ensures c.decoded.ensures)

pub returns-then-eq : goal.returns-then-eq
returns-then-eq c left h f =
    rw c.at.ensures
    (found _ _ _ _ _ c.requires.1 h f _ (omega arith)
    (by (looks (goal.at.returns-then-eq c).After-is_looked_at) c.if-not-is_looked_at.false, by (block-is (goal.at.returns-then-eq c).After-decoded) (search rules))
    c.loop-a.invariant.1)

pub loop-a-preserved : goal.loop-a-preserved
loop-a-preserved c =
    let elsewhere : c.decoded.result.block.0 ≢ c.args.b.0 = search rules in
    (omega arith, below_more _ _ c.loop-a.invariant.1 (λ i. elsewhere (block-is (goal.at.loop-a-preserved c).After-decoded ∙ i.1)))

pub loop-a-preserved-then-not-is_looked_at : goal.loop-a-preserved-then-not-is_looked_at
loop-a-preserved-then-not-is_looked_at c = (
  omega arith,
  below_more _ _ c.loop-a.invariant.1 (λ i. never i.0 (by (looks (goal.at.loop-a-preserved-then-not-is_looked_at c).After-is_looked_at) c.if-not-is_looked_at.true)),
)

pub returns : goal.returns
returns c left h f = stays _ _ _ _ _ f (λ a l. c.loop-a.invariant.1 a (omega arith))
