use native.Mathlib.Omega.{arith}
use Rattle.flat.proofs.Sectors.{going-starts, going-room, going-goes, going_done}
use Rattle.flat.proofs.put_file.Goals as goal

pub loop-n-init : goal.loop-n-init
loop-n-init c = going-starts _ _ _ c.requires.0 _

pub put_piece-requires : goal.put_piece-requires
put_piece-requires c =
    let h = c.requires in
    (h.0, omega arith, going-room _ _ _ h.0 c.loop-n.invariant h.1 (omega arith))

pub overflow_add-at : goal.overflow_add-at
overflow_add-at c =
    let h = c.requires in
    omega (arith, going-room _ _ _ h.0 c.loop-n.invariant h.1 (omega arith))

pub loop-n-preserved : goal.loop-n-preserved
loop-n-preserved c =
    let h = c.requires in
    going-goes _ _ _ h.0 c.loop-n.invariant h.1 (omega arith) c.put_piece.ensures

pub returns : goal.returns
returns c =
    let h = c.requires in
    going_done _ _ _ h.0 c.loop-n.invariant h.1 (omega arith)
