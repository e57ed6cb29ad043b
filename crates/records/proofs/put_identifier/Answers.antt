-- `records::put_identifier` meets its contract. Assumes nothing.
use native.Mathlib.Omega.{arith}
use Rattle.fields.specs.Layout.{num, raw}
use Rattle.fields.proofs.Records.{laid-first, laid_next}
use Rattle.records.proofs.put_identifier.Goals as goal

pub returns : goal.returns
returns c =
    let l1 = laid-first (raw _) c.copy.ensures in
    let l2 = laid_next (num 2 1) l1 c.put.ensures (omega arith) in
    (laid_next (num 2 0) l2 c.put-2.ensures (omega arith)).is
