-- `overlay::locate_parent` meets its contract. Assumes nothing.
use mathlib.Core.Path.{sym, ap, ◌∙◌}
use Rattle.std.specs.Prelude.{Ok, Err}
use Rattle.format.specs.Overlaying.{from_parent, in_image}
use Rattle.format.proofs.Chains.{early}
use Rattle.overlay.proofs.Pair.{small, handed_on}
use Rattle.overlay.proofs.locate_parent.Goals as goal

pub map_err-requires : goal.map_err-requires
map_err-requires c r e = small _ _ r (sym e ∙ c.locate_in.ensures)

pub returns-in_err-place : goal.returns-in_err-place
unfolding in_image
returns-in_err-place c =
    early c.from_residual.ensures
    (handed_on c.locate_in.result (Err c.in_err-place.field-0.0) c.in_err-place.ensures.cases ∙ ap (λ x. from_parent (in_image 1 x)) c.locate_in.ensures)

pub returns : goal.returns
unfolding in_image
returns c = handed_on c.locate_in.result (Ok c.in_ok-place.place) c.in_ok-place.ensures.cases ∙ ap (λ x. from_parent (in_image 1 x)) c.locate_in.ensures
