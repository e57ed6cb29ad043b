-- `storing::old_entry` meets its contract. Assumes nothing.
use mathlib.Core.Path.{◌∙◌, subst}
use native.Mathlib.Omega.{arith}
use Rattle.std.specs.Prelude.{Some}
use Rattle.opening.specs.Answers.{PointsTo}
use Rattle.opening.specs.Images.{held}
use Rattle.storing.proofs.Steps.{old-small, old-none, old-some}
use Rattle.storing.proofs.old_entry.Goals as goal
use Rattle.storing.proofs.old_entry.Goals.{In-Some}

points : (c : In-Some) → let a = c.args in PointsTo a.image.bytes.now (held a.image) a.a.0 (Some c.in-Some.p)
points c = subst (PointsTo _ _ _) c.in-Some.is c.written.ensures

pub returns-in-None : goal.returns-in-None
returns-in-None c = old-none _ _ _ _ (subst (PointsTo _ _ _) c.in-None.is c.written.ensures)

pub encode-requires : goal.encode-requires
unfolding PointsTo
encode-requires c =
    let h = c.requires in
    let k = points (goal.at.encode-requires c).In-Some in
    let s = old-small _ _ _ h.0 h.1 h.2 k.0 in
    (omega arith, rw k.1 s.0, rw k.1 s.1)

pub returns-in-Some : goal.returns-in-Some
returns-in-Some c = c.encode.ensures ∙ old-some _ _ _ _ _ (points (goal.at.returns-in-Some c).In-Some)
