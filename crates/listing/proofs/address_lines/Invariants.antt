-- `listing::address_lines` meets its contract. The invariant: the lines before the present one are written. Assumes nothing.
use lib.IntN.{pos, neg_ℤ}
use Rattle.opening.specs.Images.{held}
use Rattle.sectors.specs.Found.{Known}
use Rattle.text.specs.Appends.{Appends}
use Rattle.listing.specs.Listing.{lines_from}
use Rattle.listing.proofs.address_lines.Given as goal

abbrev pub invariant-loop-n : goal.invariant-loop-n
invariant-loop-n l =
    Appends l.initial.w (lines_from l.image.bytes.now l.n (neg_ℤ (pos (held l.image).negative))) l.w × Known l.image.bytes.now l.known
