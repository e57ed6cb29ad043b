-- `converting::export` meets its contract. Assumes nothing.
use native.Mathlib.Omega.{arith}
use Rattle.text.proofs.Writes.{writes-prints}
use Rattle.converting.specs.Texts.{export_text}
use Rattle.converting.proofs.Fills.{prints-image, prints-refusal}
use Rattle.converting.proofs.Calls.{export-fills, export-long}
use Rattle.converting.proofs.export.Goals as goal

pub returns-then-input-gt65536 : goal.returns-then-input-gt65536
returns-then-input-gt65536 c = rw (export-long _ c.if-input-gt65536.true) (writes-prints (omega arith) c.print.ensures)

pub returns-in-Ok : goal.returns-in-Ok
unfolding export_text
returns-in-Ok c =
    prints-image (export-fills _) _ (omega arith) (omega arith) _ c.in-Ok.is c.export_exact-answer.ensures

pub returns-in-Err : goal.returns-in-Err
unfolding export_text
returns-in-Err c =
    prints-refusal (export-fills _) _ (omega arith) (omega arith) _ c.in-Err.is c.export_exact-answer.ensures c.refused.ensures
