-- A read's bytes stand behind those of the earlier ones.
use Rattle.printing.proofs.InPlace.{Consumes-more}
use Rattle.printing.proofs.input.read_full.Goals as goal

pub loop-done-preserved : goal.loop-done-preserved
loop-done-preserved g c =
    let read = c.in_ok-n.ensures in
    (read.fits, Consumes-more _ _ _ c.loop-done.buf _ _ _ read.front c.loop-done.invariant.1 read.bytes)
