-- `records::seal_table` meets its contract. Assumes nothing.
use native.Mathlib.Omega.{arith}
use Rattle.fields.specs.Layout.{num}
use Rattle.fields.proofs.Records.{laid_next, laid_more}
use Rattle.records.proofs.Sealed.{table-header}
use Rattle.records.proofs.seal_table.Goals as goal

pub returns : goal.returns
returns c =
    let l2 = laid_next (num _ _) (record { is = c.put_identifier.ensures }) c.put.ensures (omega arith) in
    let l3 = laid_next (num _ _) l2 c.put-2.ensures (omega arith) in
    let l4 = laid_more _ l3 c.put_sums.ensures (omega arith) in
    table-header _ _ _ _ (omega arith) (rw c.part.ensures at c.checksum-sum.ensures) l4
