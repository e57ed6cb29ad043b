-- `text::Writer::bytes` meets its contract. The invariant: the bytes up to the present one are written.
-- Assumes nothing.
use lib.ListN.{take}
use Rattle.text.specs.Appends.{Appends}
use Rattle.text.proofs.Writer.bytes.Given as goal

abbrev pub invariant-loop-b : goal.invariant-loop-b
invariant-loop-b l = Appends l.initial.self (take l.b-index l.s) l.self
