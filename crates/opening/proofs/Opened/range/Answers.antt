-- `opening::Opened::range` meets its contract. Assumes nothing.
use mir.Syntax.{w16}
use mir.Val.{Fits}
use borrow.Author.Rules.{rules}
use Rattle.format.specs.Opening.{range_of}
use Rattle.opening.proofs.Opened.range.Goals as goal

pub returns : goal.returns
unfolding range_of
returns c = let f : Fits w16 c.args.self.negative = search rules in (rw c.lowest.ensures, f.fits)
