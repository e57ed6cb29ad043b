-- `aaru::create` meets its contract. Assumes nothing.
use native.Mathlib.Omega.{arith}
use mathlib.Core.Path.{refl, sym}
use Rattle.format.specs.Creating.{created_index_at, created_used, create}
use Rattle.format.specs.Answers.{answered}
use Rattle.format.specs.Facts.{CreateOk}
use Rattle.format.proofs.Checks.{created-used, create-ok}
use Rattle.format.proofs.Chains.{early-as}
use Rattle.format.proofs.Answers.{outcome-stops, outcome-done}
use Rattle.aaru.proofs.create.Goals as goal
use Rattle.aaru.proofs.create.Goals.{In_ok-create_verdict}

ok : (c : In_ok-create_verdict) → let a = c.args in CreateOk a.buffer.now a.count a.stamp.application.now
ok c = (create-ok _ _ _).0 (sym c.in_ok-create_verdict.ensures)

pub returns-in_err-create_verdict : goal.returns-in_err-create_verdict
unfolding create
returns-in_err-create_verdict c =
    early-as (λ x. answered x c.args.buffer.now) c.from_residual.ensures
    (outcome-stops _ _ _ c.in_err-create_verdict.ensures)

pub put_image-requires : goal.put_image-requires
put_image-requires c = let k = ok (goal.at.put_image-requires c).In_ok-create_verdict in (rw (created-used _) k.room, k.sized)

pub overflow_mul-at : goal.overflow_mul-at
overflow_mul-at c = let k = ok (goal.at.overflow_mul-at c).In_ok-create_verdict in omega arith

pub overflow_add-at : goal.overflow_add-at
overflow_add-at c = let k = ok (goal.at.overflow_add-at c).In_ok-create_verdict in omega arith

pub overflow_add-used : goal.overflow_add-used
overflow_add-used c = let k = ok (goal.at.overflow_add-used c).In_ok-create_verdict in omega arith

pub overflow_add-used-2 : goal.overflow_add-used-2
overflow_add-used-2 c = let k = ok (goal.at.overflow_add-used-2 c).In_ok-create_verdict in omega arith

pub returns : goal.returns
unfolding create created_used created_index_at
returns c =
    outcome-done _ c.in_ok-create_verdict.ensures refl c.put_image.ensures
