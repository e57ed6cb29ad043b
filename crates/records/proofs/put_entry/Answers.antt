-- `records::put_entry` meets its contract. Assumes nothing.
use native.Mathlib.Omega.{arith}
use Rattle.fields.specs.Layout.{num}
use Rattle.fields.proofs.Records.{laid-first, laid_next}
use Rattle.format.specs.Layouts.{entry_bytes}
use Rattle.records.proofs.put_entry.Goals as goal

pub returns : goal.returns
unfolding entry_bytes
returns c =
    let l1 = laid-first (num _ _) c.put.ensures in
    let l2 = laid_next (num _ _) l1 c.put-2.ensures (omega arith) in
    (laid_next (num _ _) l2 c.put-3.ensures (omega arith)).is
