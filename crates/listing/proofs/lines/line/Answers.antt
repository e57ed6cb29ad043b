-- `lines::line` meets its contract. Assumes nothing.
use borrow.Author.Rules.{rules}
use mir.Syntax.{w64}
use mir.Val.{SFits}
use mir.Facts.{to_z-of_z}
use Rattle.text.specs.Text.{signed}
use Rattle.text.specs.Appends.{Appends}
use Rattle.listing.proofs.Pieces.{line_at, line_refused}
use Rattle.listing.proofs.lines.line.Goals as goal
use Rattle.listing.proofs.lines.line.Goals.{After-signed}

-- the address, as it is read back from its bits
written : (c : After-signed) → Appends c.args.w.now (signed c.args.a.0) c.signed.new.self
written c = let f : SFits w64 c.args.a.0 = search rules in rw (to_z-of_z f) at c.signed.ensures

pub returns-in-Ok : goal.returns-in-Ok
returns-in-Ok c = line_at _ (written (goal.at.returns-in-Ok c).After-signed) c.in-Ok.is c.both.ensures c.end.ensures

pub returns-in-Err : goal.returns-in-Err
returns-in-Err c = line_refused _ (written (goal.at.returns-in-Err c).After-signed) c.in-Err.is c.end-in-Err.ensures
