-- `search::slot_at` meets its contract. Assumes nothing.
use mathlib.Core.Path.{◌∙◌, subst}
use Rattle.std.specs.Prelude.{Some}
use Rattle.opening.specs.Answers.{PointsTo}
use Rattle.opening.specs.Images.{held}
use Rattle.search.proofs.Disc.{slot-empty, slot-item, slot-sector}
use Rattle.search.proofs.slot_at.Goals as goal
use Rattle.search.proofs.slot_at.Goals.{In_ok-p}

points : (c : In_ok-p) → let a = c.args in PointsTo a.image.bytes.now (held a.image) a.a.0 (Some c.in_ok-p.p)
points c = subst (PointsTo _ _ _) c.in_ok-p.was c.written.ensures

pub returns-in_err-p : goal.returns-in_err-p
returns-in_err-p c = c.from_residual.ensures ∙ slot-empty _ _ _ (subst (PointsTo _ _ _) c.in_err-p.was c.written.ensures)

pub place-requires : goal.place-requires
place-requires c = slot-item _ _ _ _ (points (goal.at.place-requires c).In_ok-p) c.requires.0 c.requires.1

pub returns : goal.returns
returns c = slot-sector _ _ _ _ (points (goal.at.returns c).In_ok-p) _ c.place.ensures
