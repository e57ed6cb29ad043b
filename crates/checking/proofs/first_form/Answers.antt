use native.Mathlib.Omega.{arith}
use borrow.Author.Count.{below_more}
use Prim.{tt}
use mathlib.Core.Path.{◌≡◌, sym, ◌∙◌}
use Rattle.format.proofs.Chains.{by}
use Rattle.opening.specs.Images.{held}
use Rattle.opening.proofs.Accepted.{few, decodes}
use Rattle.opening.proofs.Entries.{pointer_is}
use Rattle.checking.specs.Checked.{looked_at, indexed, looked_verdict}
use Rattle.checking.proofs.Firsts.{first-at, first-none}
use Rattle.checking.proofs.Forms.{entry-form-ok, passed_over, form-only}
use Rattle.checking.proofs.Scopes.{looked-is}
use Rattle.checking.proofs.first_form.Goals as goal
use Rattle.checking.proofs.first_form.Goals.{After-entry_form, After-is_looked_at}

pub loop-a-init : goal.loop-a-init
loop-a-init c = (omega arith, (λ i l. absurd (omega arith)), tt)

pub table_entry-e-requires : goal.table_entry-e-requires
table_entry-e-requires c = omega arith

pub is_looked_at-requires : goal.is_looked_at-requires
is_looked_at-requires c =
    let f = few _ _ c.args.image.opens in omega arith

pub decoded-p-requires : goal.decoded-p-requires
decoded-p-requires c = decodes _ _ c.args.image.opens

pub entry_form-requires : goal.entry_form-requires
entry_form-requires c =
    let e = c.table_entry-e.ensures in
    (omega arith, e, pointer_is _ _ _ e c.decoded-p.ensures, c.loop-a.invariant.2)

-- whether it is looked at
looks : (c : After-is_looked_at)
    → let r = c.args in
    c.is_looked_at.result ≡ looked_at r.image.bytes.now (held r.image) r.scope c.loop-a.a
looks c = looked-is _ _ _ _ c.table_entry-e.ensures c.is_looked_at.ensures

-- an address that is looked at, by its form
form-is : (c : After-entry_form)
    → let r = c.args in
    looked_verdict r.image.bytes.now (held r.image) (looked_at r.image.bytes.now (held r.image) r.scope) (indexed r.image.bytes.now) c.loop-a.a ≡ c.entry_form.result
form-is c =
    let l = looked-is _ _ _ _ c.table_entry-e.ensures c.is_looked_at.ensures in
    form-only _ _ _ _ (by l c.if-not-is_looked_at.false) ∙ sym c.entry_form.ensures

pub returns-in-Err : goal.returns-in-Err
returns-in-Err c =
    first-at _ _ _ _ (omega arith) c.loop-a.invariant.1 (form-is (goal.at.returns-in-Err c).After-entry_form ∙ c.in-Err.is)

pub loop-a-preserved : goal.loop-a-preserved
loop-a-preserved c =
    let ok = entry-form-ok _ _ _ (sym (by c.in_default.is c.entry_form.ensures)) in (
      omega arith,
      below_more _ _ c.loop-a.invariant.1 (form-is (goal.at.loop-a-preserved c).After-entry_form ∙ c.in_default.is),
      rw (pointer_is _ _ _ c.table_entry-e.ensures c.decoded-p.ensures) ok,
    )

pub loop-a-preserved-then-not-is_looked_at : goal.loop-a-preserved-then-not-is_looked_at
loop-a-preserved-then-not-is_looked_at c = (
  omega arith,
  below_more _ _ c.loop-a.invariant.1 (passed_over _ _ _ _ _ (by (looks (goal.at.loop-a-preserved-then-not-is_looked_at c).After-is_looked_at) c.if-not-is_looked_at.true)),
  c.loop-a.invariant.2,
)

pub returns : goal.returns
returns c = first-none _ _ _ c.count-count.ensures (λ i l. c.loop-a.invariant.1 i (omega arith))
