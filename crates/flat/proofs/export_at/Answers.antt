-- `flat::export_at` meets its contract. Assumes nothing.
use mathlib.Core.Path.{◌≡◌, sym, ◌∙◌}
use Rattle.std.specs.Prelude.{Ok}
use Rattle.format.specs.Tests.{same, differs, ◌and◌}
use Rattle.format.specs.Refusals.{refusal}
use Rattle.format.specs.Layouts.{index_offset, entries}
use Rattle.format.specs.Committing.{sectors_verdict}
use Rattle.format.specs.Exporting.{gap_count}
use Rattle.format.specs.Answers.{answered}
use Rattle.format.proofs.Chains.{early-as, by, stop, stops, goes, on-last}
use Rattle.format.proofs.Answers.{outcome-stops}
use Rattle.opening.specs.Images.{held}
use Rattle.flat.proofs.Whole.{export-opened, file-refused, file-exported}
use Rattle.flat.proofs.export_at.Goals as goal
use Rattle.flat.proofs.export_at.Goals.{After-is_blank, In_ok-sectors_verdict}

-- the sectors pass, but for 21
sectors : (c : In_ok-sectors_verdict)
    → let a = c.args in
    Ok tt ≡ sectors_verdict a.image.bytes.now (entries a.image.bytes.now (index_offset a.image.bytes.now)) (held a.image)
sectors c = c.in_ok-sectors_verdict.ensures

-- what the test of 21 asks
blank : (c : After-is_blank)
    → let a = c.args in
    c.is_blank.result ≡ (differs (held a.image).count 0 and same (gap_count a.image.bytes.now (held a.image)) (held a.image).count)
blank c = rw (← c.count_gaps-filled.ensures, ← c.count.ensures) c.is_blank.ensures

pub returns-in_err-sectors_verdict : goal.returns-in_err-sectors_verdict
returns-in_err-sectors_verdict c =
    early-as (λ x. answered x c.args.out.now) c.from_residual.ensures
    (outcome-stops _ _ _ (stops _ c.in_err-sectors_verdict.ensures) ∙ export-opened _ _ c.args.image.opens _)

pub returns-then-is_blank : goal.returns-then-is_blank
returns-then-is_blank c =
    rw c.of.ensures
    (outcome-stops _ _ _ (goes (sectors (goal.at.returns-then-is_blank c).In_ok-sectors_verdict) (stop _ (by (blank (goal.at.returns-then-is_blank c).After-is_blank) c.if-is_blank.true))) ∙ export-opened _ _ c.args.image.opens _)

pub export_file-requires : goal.export_file-requires
export_file-requires c = (c.args.image.opens, sym (sectors (goal.at.export_file-requires c).In_ok-sectors_verdict))

pub returns-in_err-length : goal.returns-in_err-length
returns-in_err-length c =
    early-as (λ x. answered x c.export_file.new.out) c.from_residual-in_err-length.ensures
    (file-refused _ _ c.args.image.opens _ (sectors (goal.at.returns-in_err-length c).In_ok-sectors_verdict) (on-last (refusal 21 0) (by (blank (goal.at.returns-in_err-length c).After-is_blank) c.if-is_blank.false)) _ _
    c.in_err-length.ensures)

pub returns : goal.returns
returns c =
    file-exported _ _ c.args.image.opens _ (sectors (goal.at.returns c).In_ok-sectors_verdict) (on-last (refusal 21 0) (by (blank (goal.at.returns c).After-is_blank) c.if-is_blank.false)) _ _ c.count_gaps-filled.ensures
    c.in_ok-length.ensures
