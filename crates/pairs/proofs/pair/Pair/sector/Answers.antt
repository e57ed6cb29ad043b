-- `pairs::Pair::sector` meets its contract. Assumes nothing.
use native.Mathlib.Omega.{arith}
use Rattle.opening.proofs.Accepted.{few}
use Rattle.pairs.proofs.Sectors.{child-entry, sector-own, sector-inherited, sector-parents}
use Rattle.pairs.proofs.pair.Pair.sector.Goals as goal

pub entry_sector-own-requires : goal.entry_sector-own-requires
entry_sector-own-requires c = child-entry c.args.self _ c.requires

pub returns-then-own-gt0 : goal.returns-then-own-gt0
returns-then-own-gt0 c = sector-own c.args.self _ c.requires c.entry_sector-own.ensures (omega (arith, c.if-own-gt0.true))

pub address-requires : goal.address-requires
address-requires c = let f = few _ _ c.args.self.child.opens in omega arith

pub parent_sector-requires : goal.parent_sector-requires
parent_sector-requires c =
    sector-inherited c.args.self _ c.requires c.entry_sector-own.ensures (omega (arith, c.if-own-gt0.false)) c.address.ensures

pub returns : goal.returns
returns c =
    sector-parents c.args.self _ c.requires c.entry_sector-own.ensures (omega (arith, c.if-own-gt0.false)) c.address.ensures c.parent_sector.ensures
