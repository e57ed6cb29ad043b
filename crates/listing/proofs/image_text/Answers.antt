-- `listing::image_text` meets its contract. Assumes nothing.
use mathlib.Core.Path.{◌≡◌}
use Rattle.std.specs.Prelude.{Ok}
use Rattle.format.specs.Opening.{opening, range_of}
use Rattle.format.proofs.Answers.{count-refused, count-opened}
use Rattle.opening.specs.Images.{held, outcome_of}
use Rattle.listing.proofs.Fits.{opened-fits, refused-fits}
use Rattle.listing.proofs.Pieces.{image-opens, image-refused}
use Rattle.listing.proofs.image_text.Goals as goal
use Rattle.listing.proofs.image_text.Goals.{In-Ok}

opens : (c : In-Ok) → Ok (held c.in-Ok.image) ≡ opening c.args.s.now
unfolding outcome_of
opens c = c.in-Ok.ensures.opens

pub returns-in-Err : goal.returns-in-Err
unfolding outcome_of
returns-in-Err c =
    let e = count-refused _ _ c.in-Err.ensures.opens in
    (image-refused _ _ e c.head.ensures, refused-fits _ c.requires _ e)

pub returns-in-Ok : goal.returns-in-Ok
unfolding range_of
returns-in-Ok c =
    let n = c.range.ensures in
    let e = count-opened _ _ (opens (goal.at.returns-in-Ok c).In-Ok) in
    (image-opens _ _ e (rw n.0 at c.head-in-Ok.ensures) (rw c.in-Ok.ensures.bytes at c.address_lines.ensures), opened-fits _ c.requires (held c.in-Ok.image) e n.1)
