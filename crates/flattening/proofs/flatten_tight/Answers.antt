-- `flattening::flatten_tight` meets its contract. Assumes nothing.
use native.Mathlib.Omega.{arith}
use Rattle.format.proofs.Flattening.{flattenable}
use Rattle.opening.specs.Images.{held}
use Rattle.pairs.specs.Sectors.{sector_of}
use Rattle.composing.specs.Composes.{Plan, Fits}
use Rattle.composing.proofs.Laid.{image-fits, fits-lays}
use Rattle.flattening.proofs.Whole.{flat-lays, flat-plan, flat-full, flat-fits, flat-done}
use Rattle.flattening.proofs.flatten_tight.Goals as goal
use Rattle.flattening.proofs.flatten_tight.Goals.{After-lay_out-at, After-put_image}

pub lay_out-at-requires : goal.lay_out-at-requires
lay_out-at-requires c = rw c.count-count.ensures (flat-lays c.requires 0 (c.count_stored-stored.ensures 0))

-- this is the plan
planned : (c : After-lay_out-at)
    → (let a = c.args in
    Plan (sector_of a.pair) (held a.pair.child).count a.size c.count_stored-stored.result c.lay_out-at.result)
planned c =
    flat-plan c.requires (c.count_stored-stored.ensures _) (rw c.count-count.ensures at c.lay_out-at.ensures)

pub returns-then-length-end : goal.returns-then-length-end
returns-then-length-end c =
    rw c.of.ensures (flat-full c.requires _ _ _ _ _ (planned (goal.at.returns-then-length-end c).After-lay_out-at) (omega arith))

pub put_image-requires : goal.put_image-requires
put_image-requires c =
    (rw c.count-count.ensures (image-fits (planned (goal.at.put_image-requires c).After-lay_out-at) (omega arith)), ((flattenable _ _ _ _).0 c.requires.checked).named)

-- there is room behind the new image
fits : (c : After-put_image)
    → (let a = c.args in
    Fits c.put_image.new.buf (sector_of a.pair) (held a.pair.child).count a.size c.count_stored-stored.result c.lay_out-at.result)
fits c =
    let w = flat-plan c.requires (c.count_stored-stored.ensures _) (rw c.count-count.ensures at c.lay_out-at.ensures) in
    flat-fits c.requires _ _ _ _ _ w (omega arith) (rw c.count-count.ensures at c.put_image.ensures)

pub put_entries-requires : goal.put_entries-requires
put_entries-requires c =
    rw (← c.requires.size_is) (fits-lays (fits (goal.at.put_entries-requires c).After-put_image))

pub finish-requires : goal.finish-requires
finish-requires c =
    rw c.count-count.ensures (record { before = _; f = _; fits = fits (goal.at.finish-requires c).After-put_image; is = c.put_entries.ensures })

pub returns : goal.returns
returns c =
    let n = c.count-count.ensures in
    flat-done c.requires _ _ _ _ _ (planned (goal.at.returns c).After-lay_out-at) (omega arith) (rw n at c.put_image.ensures)
    ((rw n at c.finish.ensures) _ _ (fits (goal.at.returns c).After-put_image) c.put_entries.ensures)
