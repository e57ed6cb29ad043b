-- `flat::export_file` meets its contract. Assumes nothing.
use mathlib.Core.Path.{sym}
use Rattle.format.specs.Exporting.{file_verdict}
use Rattle.format.specs.Answers.{answered}
use Rattle.format.proofs.Chains.{early-as, stops}
use Rattle.format.proofs.Answers.{outcome-stops, outcome-done}
use Rattle.opening.specs.Images.{held}
use Rattle.flat.specs.Exports.{Uniform}
use Rattle.flat.proofs.Whole.{room-is, fits}
use Rattle.flat.proofs.export_file.Goals as goal
use Rattle.flat.proofs.export_file.Goals.{In_ok-sizes_verdict}

-- the written sectors have one size
uniform : (c : In_ok-sizes_verdict)
    → let a = c.args in
    Uniform a.image.bytes.now (held a.image) c.flat_size-size.result
uniform c =
    record {
      checked = c.requires;
      size_is = c.flat_size-size.ensures;
      sizes = sym c.in_ok-sizes_verdict.ensures;
    }

pub returns-in_err-sizes_verdict : goal.returns-in_err-sizes_verdict
unfolding file_verdict
returns-in_err-sizes_verdict c =
    early-as (λ x. answered x c.args.out.now) c.from_residual.ensures
    (outcome-stops _ _ _ (stops _ c.in_err-sizes_verdict.ensures))

pub returns-in_err-room_verdict : goal.returns-in_err-room_verdict
returns-in_err-room_verdict c =
    early-as (λ x. answered x c.args.out.now) c.from_residual-in_err-room_verdict.ensures
    (outcome-stops _ _ _ (room-is _ _ (uniform (goal.at.returns-in_err-room_verdict c).In_ok-sizes_verdict) c.count.ensures _ c.in_err-room_verdict.ensures))

pub put_file-requires : goal.put_file-requires
put_file-requires c =
    (uniform (goal.at.put_file-requires c).In_ok-sizes_verdict, fits _ _ (uniform (goal.at.put_file-requires c).In_ok-sizes_verdict) c.count.ensures _ c.in_ok-room_verdict.ensures)

pub returns : goal.returns
returns c =
    let n = c.count.ensures in
    outcome-done _ (room-is _ _ (uniform (goal.at.returns c).In_ok-sizes_verdict) n _ c.in_ok-room_verdict.ensures)
    c.put_file.ensures.0 c.put_file.ensures.1
