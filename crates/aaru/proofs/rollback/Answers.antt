-- `aaru::rollback` meets its contract. Assumes nothing.
use native.Mathlib.Omega.{arith}
use mathlib.Core.Path.{◌≡◌, refl, sym}
use lib.ListN.{take, length-take}
use Rattle.std.specs.Prelude.{Ok}
use Rattle.fields.specs.Bytes.{part}
use Rattle.format.specs.Writing.{writable_verdict}
use Rattle.format.specs.RollingBack.{rollback_verdict, rollback}
use Rattle.format.specs.Answers.{answered}
use Rattle.format.proofs.Checks.{buffer-ok, writable-ok}
use Rattle.format.proofs.Chains.{early-as, stops, goes}
use Rattle.format.proofs.Answers.{outcome-stops, outcome-done}
use Rattle.aaru.proofs.rollback.Goals as goal
use Rattle.aaru.proofs.rollback.Goals.{In_ok-writable_verdict}

image-passes : (c : In_ok-writable_verdict) → let a = c.args in Ok tt ≡ writable_verdict (take a.used a.buffer.now) a.offset.0
unfolding part
image-passes c = rw c.part.ensures at c.in_ok-writable_verdict.ensures

pub returns-in_err-buffer_verdict : goal.returns-in_err-buffer_verdict
unfolding rollback rollback_verdict
returns-in_err-buffer_verdict c =
    early-as (λ x. answered x c.args.buffer.now) c.from_residual.ensures
    (outcome-stops _ _ _ (stops _ c.in_err-buffer_verdict.ensures))

pub part-requires : goal.part-requires
part-requires c = let k = (buffer-ok _ _).0 (sym c.in_ok-buffer_verdict.ensures) in omega arith

pub returns-in_err-writable_verdict : goal.returns-in_err-writable_verdict
unfolding rollback rollback_verdict part
returns-in_err-writable_verdict c =
    early-as (λ x. answered x c.args.buffer.now) c.from_residual-in_err-writable_verdict.ensures
    (outcome-stops _ _ _
    (goes c.in_ok-buffer_verdict.ensures
    (rw c.part.ensures at c.in_err-writable_verdict.ensures)))

pub set_header-requires : goal.set_header-requires
set_header-requires c =
    let k = ((writable-ok _ _).0 (sym (image-passes (goal.at.set_header-requires c).In_ok-writable_verdict))).opens.header.long in
    omega (arith, rw length-take at k)

pub returns : goal.returns
unfolding rollback rollback_verdict
returns c =
    outcome-done _ (goes c.in_ok-buffer_verdict.ensures (image-passes (goal.at.returns c).In_ok-writable_verdict)) refl c.set_header.ensures
