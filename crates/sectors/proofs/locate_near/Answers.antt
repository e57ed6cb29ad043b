-- `sectors::locate_near` meets its contract. Assumes nothing.
use mathlib.Core.Path.{◌≡◌, ap, ◌∙◌}
use Rattle.std.specs.Prelude.{Ok}
use Rattle.format.specs.Refusals.{answer}
use Rattle.format.specs.Layouts.{index_offset, entries}
use Rattle.format.specs.Reading.{address_verdict, pointer_of}
use Rattle.opening.specs.Images.{held}
use Rattle.sectors.proofs.Places.{locate-refused, locate-found, found-item, found-known}
use Rattle.sectors.proofs.locate_near.Goals as goal
use Rattle.sectors.proofs.locate_near.Goals.{In-Ok}

given : (c : In-Ok)
    → let s = c.args.image.bytes.now in
    let t = held c.args.image in
    let a = c.args.v.address.0 in
    Ok c.in-Ok.p ≡ answer (address_verdict s (entries s (index_offset s)) t a) (pointer_of s t a)
given c = c.in-Ok.ensures

pub place-requires : goal.place-requires
place-requires c = found-item _ _ c.args.image.opens _ _ (given (goal.at.place-requires c).In-Ok)

pub returns-in-Err : goal.returns-in-Err
returns-in-Err c = (
  locate-refused _ _ c.args.image.opens _ _ (c.in-Err.ensures),
  c.requires,
)

pub returns-in-Ok : goal.returns-in-Ok
returns-in-Ok c =
    let g = given (goal.at.returns-in-Ok c).In-Ok in (
      ap Ok c.place.ensures ∙ locate-found _ _ c.args.image.opens _ _ g,
      found-known _ _ c.args.image.opens _ _ g,
    )
