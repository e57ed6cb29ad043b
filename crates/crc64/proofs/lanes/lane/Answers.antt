-- `lanes::lane` meets its contract: each look-up is in range, and the eight are 256 shifts. Assumes nothing.
use Rattle.crc64.proofs.Lookup.{looks}
use Rattle.crc64.proofs.lanes.lane.Goals as goal

pub returns : goal.returns
returns c =
    looks c.args.t.now c.requires c.args.x c.ranges.x.fits
