-- `flat::room_verdict` meets its contract. Assumes nothing.
use native.Mathlib.Omega.{arith}
use Rattle.flat.proofs.Sectors.{room-none, room-short, room-enough}
use Rattle.flat.proofs.room_verdict.Goals as goal

pub returns-then-size-eq0 : goal.returns-then-size-eq0
returns-then-size-eq0 c = room-none _ _ _ (omega arith)

pub returns-then-length-size : goal.returns-then-length-size
returns-then-length-size c = rw c.of.ensures (room-short _ _ _ (omega arith) (omega arith))

pub returns : goal.returns
returns c = room-enough _ _ _ (omega arith) (omega arith)
