-- `flattening::flatten_roomy` meets its contract. Assumes nothing.
use native.Mathlib.Nat.{le_trans}
use mathlib.Core.List.{flatten}
use mathlib.Core.Path.{◌≡◌, ◌∙◌}
use Prim.Native.Nat.{◌+◌, ◌≤◌}
use lib.ListN.{length}
use Rattle.fields.specs.Bytes.{overwrite}
use Rattle.format.specs.Layouts.{block_header_length}
use Rattle.format.proofs.Flattening.{flattenable}
use Rattle.opening.specs.Images.{held}
use Rattle.pairs.specs.Sectors.{sector_of, written_in}
use Rattle.composing.specs.Composes.{stored_of, Plan, Fits}
use Rattle.composing.proofs.Entries.{stored-lays, stored-filled}
use Rattle.composing.proofs.Laid.{Most, most-used, most-image, most-end, most-block, fits-lays}
use Rattle.flattening.proofs.Whole.{flat-lays, flat-most, flat-roomy, flat-plan, flat-fits, flat-done}
use Rattle.flattening.proofs.flatten_roomy.Goals as goal
use Rattle.flattening.proofs.flatten_roomy.Goals.{After-lay_out-at, Start}

-- in what follows m is the most that is stored, w the plan
most : (c : Start)
    → (let a = c.args in
    Most (sector_of a.pair) (held a.pair.child).count a.size (length (written_in a.pair)) a.most)
most c =
    flat-most c.requires.0 c.requires.1

pub put_image-requires : goal.put_image-requires
put_image-requires c =
    (rw c.count-count.ensures (most-image (most (goal.at.put_image-requires c).Start) c.requires.2), ((flattenable _ _ _ _).0 c.requires.0.checked).named)

pub put_sectors-stored-requires : goal.put_sectors-stored-requires
put_sectors-stored-requires c =
    rw (← c.requires.0.size_is) (flat-roomy c.requires.0 c.requires.1 c.put_image.auto.buf c.requires.2)

pub lay_out-at-requires : goal.lay_out-at-requires
lay_out-at-requires c =
    rw c.count-count.ensures (flat-lays c.requires.0 _ c.put_sectors-stored.ensures.0)

-- this is the plan
planned : (c : After-lay_out-at)
    → (let a = c.args in
    Plan (sector_of a.pair) (held a.pair.child).count a.size c.put_sectors-stored.result c.lay_out-at.result)
planned c =
    let m = flat-most c.requires.0 c.requires.1 in
    flat-plan c.requires.0 (rw (most-used m) at c.put_sectors-stored.ensures.0) (rw c.count-count.ensures at c.lay_out-at.ensures)

room : (c : After-lay_out-at)
    → c.lay_out-at.result.end ≤ length c.args.buffer.now
room c =
    let m = flat-most c.requires.0 c.requires.1 in
    let w = flat-plan c.requires.0 (rw (most-used m) at c.put_sectors-stored.ensures.0) (rw c.count-count.ensures at c.lay_out-at.ensures) in
    le_trans (most-end m w) c.requires.2

-- the new image stands in front
fits : (c : After-lay_out-at)
    → (let a = c.args in
    Fits c.put_image.new.buf (sector_of a.pair) (held a.pair.child).count a.size c.put_sectors-stored.result c.lay_out-at.result)
fits c =
    let m = flat-most c.requires.0 c.requires.1 in
    let w = flat-plan c.requires.0 (rw (most-used m) at c.put_sectors-stored.ensures.0) (rw c.count-count.ensures at c.lay_out-at.ensures) in
    let r = le_trans (most-end m w) c.requires.2 in
    flat-fits c.requires.0 _ _ _ _ _ w r (rw c.count-count.ensures at c.put_image.ensures)

-- and behind it the stored sectors
block : (c : After-lay_out-at)
    → (let a = c.args in
    let used = c.lay_out-at.result.used in
    c.put_sectors-stored.new.buf ≡ overwrite c.put_image.new.buf (used + block_header_length) (flatten (stored_of used (sector_of a.pair) (held a.pair.child).count).items))
block c =
    let m = flat-most c.requires.0 c.requires.1 in
    let w = flat-plan c.requires.0 (rw (most-used m) at c.put_sectors-stored.ensures.0) (rw c.count-count.ensures at c.lay_out-at.ensures) in
    most-block m w _ c.put_sectors-stored.ensures.1

pub put_entries-requires : goal.put_entries-requires
put_entries-requires c =
    rw (← c.requires.0.size_is) (stored-lays (fits-lays (fits (goal.at.put_entries-requires c).After-lay_out-at)) (block (goal.at.put_entries-requires c).After-lay_out-at))

pub finish-requires : goal.finish-requires
finish-requires c =
    rw c.count-count.ensures
    (record { before = _; f = _; fits = fits (goal.at.finish-requires c).After-lay_out-at; is = c.put_entries.ensures ∙ stored-filled (fits-lays (fits (goal.at.finish-requires c).After-lay_out-at)) (block (goal.at.finish-requires c).After-lay_out-at) })

pub returns : goal.returns
returns c =
    let n = c.count-count.ensures in
    flat-done c.requires.0 _ _ _ _ _ (planned (goal.at.returns c).After-lay_out-at) (room (goal.at.returns c).After-lay_out-at) (rw n at c.put_image.ensures)
    ((rw n at c.finish.ensures) _ _ (fits (goal.at.returns c).After-lay_out-at) (c.put_entries.ensures ∙ stored-filled (fits-lays (fits (goal.at.returns c).After-lay_out-at)) (block (goal.at.returns c).After-lay_out-at)))
