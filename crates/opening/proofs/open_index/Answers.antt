-- `opening::open_index` meets its contract. Assumes nothing.
use mathlib.Core.Path.{◌≡◌, sym}
use Rattle.std.specs.Prelude.{Ok}
use Rattle.format.specs.Facts.{IndexOk}
use Rattle.format.specs.Opening.{index_verdict, open_verdict, opened}
use Rattle.format.proofs.Refusals.{answer-accepted, answer-refused}
use Rattle.format.proofs.Checks.{index_ok}
use Rattle.format.proofs.Agree.{table-room}
use Rattle.format.proofs.Chains.{early-as, stops, stops-both, goes, refuses, answers, answers-both}
use Rattle.index.specs.Tables.{only_one}
use Rattle.opening.specs.Answers.{outcome}
use Rattle.opening.proofs.open_index.Goals as goal
use Rattle.opening.proofs.open_index.Goals.{In_ok-index_verdict}

-- what is known once the index has passed
index-passes : (c : In_ok-index_verdict) → Ok tt ≡ index_verdict c.args.s.now c.args.o.0
index-passes c = c.in_ok-index_verdict.ensures

ok : (c : In_ok-index_verdict) → IndexOk c.args.s.now c.args.o.0
ok c = (index_ok _ _).0 (sym (index-passes c))

pub returns-in_err-index_verdict : goal.returns-in_err-index_verdict
unfolding open_verdict outcome
returns-in_err-index_verdict c =
    early-as outcome c.from_residual.ensures (refuses _ (goes (sym c.requires) (stops _ c.in_err-index_verdict.ensures)))

pub invariant_of-one_table : goal.invariant_of-one_table
invariant_of-one_table c = record { inside = (ok (goal.at.invariant_of-one_table c).In_ok-index_verdict).fits }

pub open_table-requires : goal.open_table-requires
unfolding only_one
open_table-requires c =
    let q = answer-accepted _ _ _ (sym c.in_ok-t.ensures) in
    rw (← q.1) (table-room _ _ q.0)

pub returns-in_err-t : goal.returns-in_err-t
unfolding open_verdict outcome only_one
returns-in_err-t c =
    early-as outcome c.from_residual-in_err-t.ensures (refuses _
    (goes (sym c.requires)
    (goes (index-passes (goal.at.returns-in_err-t c).In_ok-index_verdict)
    (stops-both _ _ _ (sym (answer-refused _ _ _ (sym c.in_err-t.ensures)))))))

pub returns : goal.returns
unfolding open_verdict opened only_one
returns c =
    let q = answer-accepted _ _ _ (sym c.in_ok-t.ensures) in
    answers _ _ (sym c.requires)
    (answers _ _ (index-passes (goal.at.returns c).In_ok-index_verdict)
    (answers-both _ _ _ _ (sym q.0) (rw q.1 c.open_table.ensures)))
