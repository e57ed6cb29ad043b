-- `records::seal_index` meets its contract. Assumes nothing.
use native.Mathlib.Omega.{arith}
use Rattle.fields.specs.Layout.{num, raw}
use Rattle.fields.proofs.Records.{laid-first, laid_next}
use Rattle.records.proofs.Sealed.{index-header}
use Rattle.records.proofs.seal_index.Goals as goal

pub returns : goal.returns
returns c =
    let l1 = laid-first (raw _) c.copy.ensures in
    let l2 = laid_next (num _ _) l1 c.put.ensures (omega arith) in
    let l3 = laid_next (num _ _) l2 c.put-2.ensures (omega arith) in
    index-header _ _ _ (rw c.part.ensures at c.checksum-sum.ensures) l3
