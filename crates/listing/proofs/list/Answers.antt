-- `listing::list` meets its contract. Assumes nothing.
use borrow.Author.Rules.{rules}
use native.Mathlib.Omega.{arith}
use Rattle.text.proofs.Writes.{writes-prints}
use Rattle.listing.proofs.Pieces.{listing-long, listing-image}
use Rattle.listing.proofs.list.Goals as goal

pub returns-then-input-gt65536 : goal.returns-then-input-gt65536
returns-then-input-gt65536 c =
    rw (listing-long _ c.if-input-gt65536.true) (writes-prints (omega arith) c.print.ensures)

pub returns : goal.returns
returns c =
    rw (listing-image _ c.if-input-gt65536.false) (writes-prints (omega (arith, c.image_text.ensures.1)) (search rules))
