-- `converting::import` meets its contract. Assumes nothing.
use native.Mathlib.Omega.{arith}
use Rattle.text.proofs.Writes.{writes-prints}
use Rattle.converting.specs.Texts.{import_text}
use Rattle.converting.proofs.Fills.{prints-image, prints-refusal}
use Rattle.converting.proofs.Calls.{import-fills, import-long}
use Rattle.converting.proofs.import.Goals as goal

pub returns-then-input-gt65536 : goal.returns-then-input-gt65536
returns-then-input-gt65536 c = rw (import-long _ c.if-input-gt65536.true) (writes-prints (omega arith) c.print.ensures)

pub returns-in-Ok : goal.returns-in-Ok
unfolding import_text
returns-in-Ok c =
    prints-image (import-fills _ _ _ _ _ _ _ _) _ (omega arith) (omega arith) _ c.in-Ok.is c.import-answer.ensures

pub returns-in-Err : goal.returns-in-Err
unfolding import_text
returns-in-Err c =
    prints-refusal (import-fills _ _ _ _ _ _ _ _) _ (omega arith) (omega arith) _ c.in-Err.is c.import-answer.ensures c.print_refused.ensures
