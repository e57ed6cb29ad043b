-- `text::Writer::number`, which calls itself, meets its contract.
use native.Mathlib.Omega.{arith}
use Rattle.text.proofs.Decimal.{decimal-one, decimal-more}
use Rattle.text.proofs.Appends.{appends_then}
use Rattle.text.proofs.Writer.+number.Goals as goal

pub returns-then-n-lt10 : goal.returns-then-n-lt10
returns-then-n-lt10 t c = rw (decimal-one _ c.if-n-lt10.true) c.byte.ensures

pub returns : goal.returns
returns t c = rw (decimal-more _ c.if-n-lt10.false (omega arith)) (appends_then c.number.ensures c.byte-2.ensures)
