-- `opening::open_table` meets its contract. Assumes nothing.
use mathlib.Core.Path.{sym}
use native.Mathlib.Omega.{arith}
use Rattle.format.specs.Facts.{TableOk}
use Rattle.format.specs.Opening.{opened_as}
use Rattle.format.proofs.Checks.{table-ok}
use Rattle.format.proofs.Chains.{early-as, refuses, accepts}
use Rattle.opening.specs.Answers.{outcome}
use Rattle.opening.proofs.open_table.Goals as goal
use Rattle.opening.proofs.open_table.Goals.{In_ok-table_verdict}

-- no check applied
ok : (c : In_ok-table_verdict) → let a = c.args in TableOk a.s.now c.kind_at-kind.result a.t.0
ok c = (table-ok _ _ _).0 (sym c.in_ok-table_verdict.ensures)

pub returns-in_err-table_verdict : goal.returns-in_err-table_verdict
unfolding outcome
returns-in_err-table_verdict c = early-as outcome c.from_residual.ensures (refuses _ (rw c.kind_at-kind.ensures at c.in_err-table_verdict.ensures))

pub get-count-requires : goal.get-count-requires
get-count-requires c = let k = ok (goal.at.get-count-requires c).In_ok-table_verdict in omega arith

pub get-shift-requires : goal.get-shift-requires
get-shift-requires c = let k = ok (goal.at.get-shift-requires c).In_ok-table_verdict in omega arith

pub alignment_at-alignment-requires : goal.alignment_at-alignment-requires
alignment_at-alignment-requires c = (ok (goal.at.alignment_at-alignment-requires c).In_ok-table_verdict).head

pub negative_at-negative-requires : goal.negative_at-negative-requires
negative_at-negative-requires c = (ok (goal.at.negative_at-negative-requires c).In_ok-table_verdict).head

pub returns : goal.returns
unfolding outcome opened_as
returns c =
    let l = c.layout_of-l.ensures in
    accepts (rw c.kind_at-kind.ensures at c.in_ok-table_verdict.ensures)
    (rw (c.negative_at-negative.ensures, c.alignment_at-alignment.ensures, c.get-shift.ensures, c.get-count.ensures, l.entries, l.shift, c.kind_at-kind.ensures))
