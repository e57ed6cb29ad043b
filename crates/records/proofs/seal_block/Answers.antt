-- `records::seal_block` meets its contract. Assumes nothing.
use native.Mathlib.Omega.{arith}
use mathlib.Core.Path.{sym, ap, ◌∙◌}
use Rattle.fields.specs.Bytes.{overwrite}
use Rattle.fields.specs.Layout.{num}
use Rattle.fields.proofs.Overwrite.{overwrite-nil}
use Rattle.fields.proofs.Records.{laid_next, laid_more}
use Rattle.records.proofs.Sealed.{block-header, header-none, header-some}
use Rattle.records.proofs.seal_block.Goals as goal

pub returns-then-stored-eq0 : goal.returns-then-stored-eq0
returns-then-stored-eq0 c = sym (ap (overwrite _ _) (header-none _ _ _ c.if-stored-eq0.true) ∙ overwrite-nil _ _)

pub returns : goal.returns
returns c =
    let l2 = laid_next (num _ _) (record { is = c.put_identifier.ensures }) c.put.ensures (omega arith) in
    let l3 = laid_more _ l2 c.put_sums.ensures (omega arith) in
    block-header _ _ _ (omega arith) (rw c.part.ensures at c.checksum-sum.ensures) l3
    ∙ ap (overwrite _ _) (sym (header-some _ _ _ c.if-stored-eq0.false))
