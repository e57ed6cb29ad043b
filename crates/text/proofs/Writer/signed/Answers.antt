-- `text::Writer::signed` meets its contract. Assumes nothing.
use mathlib.Core.Path.{◌≡◌}
use lib.IntN.{nat_abs}
use mir.Syntax.{w64}
use mir.Val.{SFits}
use mir.Facts.{to_z-of_z}
use borrow.Author.Rules.{rules}
use Rattle.fields.proofs.Signs.{sign-is}
use Rattle.text.proofs.Decimal.{signed_up, signed-down}
use Rattle.text.proofs.Writer.signed.Goals as goal
use Rattle.text.proofs.Writer.signed.Goals.{After-magnitude-n}

number : (c : After-magnitude-n) → SFits w64 c.args.x
number c = search rules

size : (c : After-magnitude-n) → c.magnitude-n.result ≡ nat_abs c.args.x
size c = rw (to_z-of_z (number c)) at c.magnitude-n.ensures

pub returns-then-x-lt0 : goal.returns-then-x-lt0
returns-then-x-lt0 c =
    let m = (goal.at.returns-then-x-lt0 c).After-magnitude-n in
    rw (signed-down _ (size m) (sign-is _ (number m) c.if-x-lt0.true)) c.both.ensures

pub returns : goal.returns
returns c =
    let m = (goal.at.returns c).After-magnitude-n in
    rw (signed_up _ (size m) (sign-is _ (number m) c.if-x-lt0.false)) c.number.ensures
