-- `records::put_header` meets its contract. Assumes nothing.
use native.Mathlib.Omega.{arith}
use Rattle.fields.specs.Layout.{num, raw}
use Rattle.fields.proofs.Records.{laid-first, laid_next, laid_more}
use Rattle.format.specs.Layouts.{header_bytes}
use Rattle.records.proofs.put_header.Goals as goal

pub returns : goal.returns
unfolding header_bytes
returns c =
    let long = c.requires.1 in
    let l1 = laid-first (raw _) c.copy.ensures in
    let l2 = laid_next (raw _) l1 c.copy-2.ensures (omega arith) in
    let l3 = laid_more _ l2 c.put_versions.ensures (omega arith) in
    let l4 = laid_next (num _ _) l3 c.put.ensures (omega arith) in
    let l5 = laid_next (num _ _) l4 c.put-2.ensures (omega arith) in
    (laid_next (num _ _) l5 c.put-3.ensures (omega arith)).is
