-- `storing::store` meets its contract. Assumes nothing.
use Rattle.fields.specs.Bytes.{part}
use Rattle.storing.proofs.Steps.{readable, inside-disc, found, adds, added}
use Rattle.storing.proofs.store.Goals as goal

pub invariant_of-image : goal.invariant_of-image
invariant_of-image c = let p = c.requires in record { opens = readable _ _ _ _ _ p.0 p.1 c.part.ensures }

pub on_disc-requires : goal.on_disc-requires
unfolding part
on_disc-requires c = rw c.part.ensures c.requires.0

pub pointer-requires : goal.pointer-requires
pointer-requires c =
    let p = c.requires in
    inside-disc _ _ _ _ _ p.0 p.1 c.part.ensures c.on_disc.ensures c.in-Some.is

pub returns-in-Some : goal.returns-in-Some
returns-in-Some c =
    let p = c.requires in
    found _ _ _ _ _ p.0 p.1 c.part.ensures c.on_disc.ensures c.in-Some.is
    c.pointer.ensures

pub store_among-requires : goal.store_among-requires
store_among-requires c =
    let p = c.requires in
    adds _ _ _ _ _ p.0 p.1 c.part.ensures c.on_disc.ensures c.in_default.is

pub returns : goal.returns
returns c =
    let p = c.requires in
    added _ _ _ _ _ p.0 p.1 c.part.ensures c.on_disc.ensures c.in_default.is c.store_among.ensures
