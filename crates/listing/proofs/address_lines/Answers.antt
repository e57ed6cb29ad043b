use mathlib.Core.Path.{◌≡◌}
use native.Mathlib.Omega.{arith}
use Rattle.opening.proofs.Accepted.{few}
use Rattle.text.proofs.Appends.{appends-none}
use Rattle.listing.specs.Listing.{lines_from}
use Rattle.listing.proofs.Pieces.{lines_next}
use Rattle.listing.proofs.address_lines.Goals as goal

pub loop-n-init : goal.loop-n-init
unfolding lines_from
loop-n-init c = (appends-none _, tt)

pub address-address-requires : goal.address-address-requires
address-address-requires c = let f = few _ _ c.args.image.opens in omega arith

pub loop-n-preserved : goal.loop-n-preserved
loop-n-preserved c =
    let l = c.loop-n.invariant in
    let e = c.address-address.ensures in
    let n = c.locate_near-near.ensures in (
      lines_next _ _ _ l.0 (rw (n.0, e) at c.line.ensures),
      n.1,
    )

pub returns : goal.returns
returns c =
    let e : c.loop-n.n ≡ c.args.image.found.count = omega arith in
    rw (← e) c.loop-n.invariant.0
