-- `overlay::source_over` meets its contract. Assumes nothing.
use Rattle.overlay.proofs.Pair.{is-of, is-refused}
use Rattle.overlay.proofs.source_over.Goals as goal

pub returns-in-Err : goal.returns-in-Err
returns-in-Err c = is-refused _ _ _ _ c.in-Err.ensures

pub returns-in-Ok : goal.returns-in-Ok
returns-in-Ok c = is-of _ _ _ _ c.in-Ok.ensures
