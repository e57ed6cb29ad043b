-- `importing::import` meets its contract. Assumes nothing.
use native.Mathlib.Omega.{arith}
use mathlib.Core.Path.{sym, ◌∙◌}
use Prim.Native.Nat.{◌/◌}
use lib.ListN.{length}
use Rattle.format.specs.Answers.{answered}
use Rattle.format.proofs.Chains.{early-as, stops}
use Rattle.format.proofs.Answers.{outcome-stops}
use Rattle.format.proofs.Importing.{Importable, importable, composable, import-is, import-composed}
use Rattle.planning.specs.Plans.{sector_of}
use Rattle.composing.specs.Composes.{Plan, Fits}
use Rattle.composing.proofs.Laid.{image-fits, fits-lays}
use Rattle.composing.proofs.New.{composed-full, composed-fits, composed-done}
use Rattle.importing.proofs.File.{import-files, import-hands, import-lays, import-plan}
use Rattle.importing.proofs.import.Goals as goal
use Rattle.importing.proofs.import.Goals.{After-lay_out-at, After-put_image, In_ok-import_verdict}

-- the arguments have passed
ok : (c : In_ok-import_verdict) → (let a = c.args in Importable a.buffer.now a.file.now a.size a.stamp.application.now)
ok c = (importable _ _ _ _).0 (sym c.in_ok-import_verdict.ensures)

pub returns-in_err-import_verdict : goal.returns-in_err-import_verdict
returns-in_err-import_verdict c =
    early-as (λ x. answered x c.args.buffer.now) c.from_residual.ensures
    (outcome-stops _ _ _ (stops _ c.in_err-import_verdict.ensures) ∙ sym (import-is _ _ _ _ _ _ _ _ _))

pub nonzero_div-count : goal.nonzero_div-count
nonzero_div-count c = omega (arith, (ok (goal.at.nonzero_div-count c).In_ok-import_verdict).some)

pub count_stored-stored-requires : goal.count_stored-stored-requires
count_stored-stored-requires c = import-files (ok (goal.at.count_stored-stored-requires c).In_ok-import_verdict)

pub lay_out-at-requires : goal.lay_out-at-requires
lay_out-at-requires c = import-lays (ok (goal.at.lay_out-at-requires c).In_ok-import_verdict) (c.count_stored-stored.ensures 0)

-- and this is the plan
planned : (c : After-lay_out-at)
    → (let a = c.args in Plan (sector_of a.size a.file.now) (length a.file.now / a.size) a.size c.count_stored-stored.result c.lay_out-at.result)
planned c =
    let k = (importable _ _ _ _).0 (sym c.in_ok-import_verdict.ensures) in
    import-plan k (c.count_stored-stored.ensures _) c.lay_out-at.ensures

pub returns-then-length-end : goal.returns-then-length-end
returns-then-length-end c =
    let k = ok (goal.at.returns-then-length-end c).In_ok-import_verdict in
    rw c.of.ensures
    (composed-full _ _ _ _ _ _ _ _ _ _ _ (composable k) (import-hands k) (planned (goal.at.returns-then-length-end c).After-lay_out-at) (omega arith) ∙ sym (import-composed _ _ _ _ _ _ _ _ _ k))

pub put_image-requires : goal.put_image-requires
put_image-requires c =
    (image-fits (planned (goal.at.put_image-requires c).After-lay_out-at) (omega arith), (ok (goal.at.put_image-requires c).In_ok-import_verdict).sized)

-- there is room behind the new image
fits : (c : After-put_image)
    → (let a = c.args in
    Fits c.put_image.new.buf (sector_of a.size a.file.now) (length a.file.now / a.size) a.size c.count_stored-stored.result c.lay_out-at.result)
fits c =
    let k = (importable _ _ _ _).0 (sym c.in_ok-import_verdict.ensures) in
    let p = import-plan k (c.count_stored-stored.ensures _) c.lay_out-at.ensures in
    composed-fits _ _ _ _ _ _ _ _ _ _ _ (composable k) (import-hands k) p (omega arith) c.put_image.ensures

pub put_entries-requires : goal.put_entries-requires
put_entries-requires c =
    (import-files (ok (goal.at.put_entries-requires c).In_ok-import_verdict), fits-lays (fits (goal.at.put_entries-requires c).After-put_image))

pub finish-requires : goal.finish-requires
finish-requires c =
    record { before = _; f = _; fits = fits (goal.at.finish-requires c).After-put_image; is = c.put_entries.ensures }

pub returns : goal.returns
returns c =
    let k = ok (goal.at.returns c).In_ok-import_verdict in
    composed-done _ _ _ _ _ _ _ _ _ _ _ (composable k) (import-hands k) (planned (goal.at.returns c).After-lay_out-at) (omega arith) c.put_image.ensures
    (c.finish.ensures _ _ (fits (goal.at.returns c).After-put_image) c.put_entries.ensures)
    ∙ sym (import-composed _ _ _ _ _ _ _ _ _ k)
