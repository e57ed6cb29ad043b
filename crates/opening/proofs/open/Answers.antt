-- `opening::open` meets its contract. Assumes nothing.
use native.Mathlib.Omega.{arith}
use mathlib.Core.Path.{◌≡◌, sym}
use Rattle.std.specs.Prelude.{Ok}
use Rattle.format.specs.Layouts.{index_offset}
use Rattle.format.specs.Opening.{header_verdict, open_verdict, opening}
use Rattle.format.proofs.Checks.{header_ok}
use Rattle.format.proofs.Chains.{early-as, stops, refuses}
use Rattle.opening.specs.Answers.{outcome}
use Rattle.opening.specs.Images.{outcome_of}
use Rattle.opening.proofs.open.Goals as goal
use Rattle.opening.proofs.open.Goals.{In_ok-header_verdict}

passes : (c : In_ok-header_verdict) → header_verdict c.args.s.now ≡ Ok tt
passes c = sym c.in_ok-header_verdict.ensures

pub returns-in_err-header_verdict-clause-opens : goal.returns-in_err-header_verdict-clause-opens
unfolding outcome_of opening open_verdict
returns-in_err-header_verdict-clause-opens c =
    early-as outcome_of c.from_residual.ensures (refuses _ (stops _ c.in_err-header_verdict.ensures))

pub get-requires : goal.get-requires
get-requires c = let k = (header_ok _).0 (passes (goal.at.get-requires c).In_ok-header_verdict) in omega arith

pub open_index-requires : goal.open_index-requires
open_index-requires c = passes (goal.at.open_index-requires c).In_ok-header_verdict

pub returns-in_err-found-clause-opens : goal.returns-in_err-found-clause-opens
unfolding outcome outcome_of opening index_offset
returns-in_err-found-clause-opens c = early-as outcome_of c.from_residual-in_err-found.ensures (rw (← c.get.ensures) c.in_err-found.ensures)

pub invariant_of-result : goal.invariant_of-result
unfolding outcome opening index_offset
invariant_of-result c = record { opens = rw (← c.get.ensures) (sym c.in_ok-found.ensures) }

pub returns-clause-opens : goal.returns-clause-opens
unfolding outcome outcome_of opening index_offset
returns-clause-opens c = rw (← c.get.ensures) c.in_ok-found.ensures
