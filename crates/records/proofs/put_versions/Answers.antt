-- `records::put_versions` meets its contract. Assumes nothing.
use native.Mathlib.Omega.{arith}
use Rattle.fields.specs.Layout.{num}
use Rattle.fields.proofs.Records.{laid-first, laid_next}
use Rattle.records.proofs.put_versions.Goals as goal

pub returns : goal.returns
returns c =
    let l1 = laid-first (num _ _) c.put.ensures in
    let l2 = laid_next (num _ _) l1 c.put-2.ensures (omega arith) in
    let l3 = laid_next (num _ _) l2 c.put-3.ensures (omega arith) in
    let l4 = laid_next (num _ _) l3 c.put-4.ensures (omega arith) in
    (laid_next (num _ _) l4 c.put-5.ensures (omega arith)).is
