-- The part that was read into stands behind the buffer's front, which stays.
use Rattle.std.proofs.Common.{arith, length-take-le}
use borrow.Rule.Slice.PartMut.{take_put}
use Rattle.printing.proofs.InPlace.{Consumes-in_place}
use Rattle.printing.proofs.input.read_at.Goals as goal

pub returns-clause-front : goal.returns-clause-front
returns-clause-front g c = take_put _ _ c.args.buf.now _ (omega (arith, c.requires))

pub returns-clause-bytes : goal.returns-clause-bytes
returns-clause-bytes g c =
    Consumes-in_place _ _ c.read.result _ c.read.new.buf _ c.args.at (length-take-le _ c.args.buf.now (omega (arith, c.requires)))
    c.read.ensures.bound c.read.ensures.bytes
