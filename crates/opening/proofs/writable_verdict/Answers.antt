-- `opening::writable_verdict` meets its contract. Assumes nothing.
use mathlib.Core.Path.{sym}
use Rattle.format.specs.Opening.{open_verdict}
use Rattle.format.specs.Writing.{writable_verdict}
use Rattle.format.proofs.Refusals.{answer-accepted, answer-refused}
use Rattle.format.proofs.Chains.{early, stops, goes}
use Rattle.opening.specs.Answers.{outcome}
use Rattle.opening.proofs.writable_verdict.Goals as goal

pub returns-in_err-header_verdict : goal.returns-in_err-header_verdict
unfolding writable_verdict open_verdict
returns-in_err-header_verdict c = early c.from_residual.ensures (stops _ (stops _ c.in_err-header_verdict.ensures))

pub open_index-requires : goal.open_index-requires
open_index-requires c = sym c.in_ok-header_verdict.ensures

pub returns-in-Err : goal.returns-in-Err
unfolding writable_verdict outcome
returns-in-Err c = stops _ (sym (answer-refused _ _ _ (sym c.in-Err.ensures)))

pub returns-in-Ok : goal.returns-in-Ok
unfolding writable_verdict outcome
returns-in-Ok c =
    let q = answer-accepted _ _ _ (sym c.in-Ok.ensures) in
    goes (sym q.0) (rw q.1 c.kind_verdict.ensures)
