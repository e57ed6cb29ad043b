use native.Mathlib.Omega.{arith}
use mathlib.Core.Path.{◌≡◌, sym, ap, ◌∙◌}
use lib.ListN.{length}
use Rattle.opening.specs.Images.{held}
use Rattle.pairs.specs.Sectors.{sector_of}
use Rattle.composing.specs.Composes.{stored_of}
use Rattle.composing.proofs.Handed.{items-few}
use Rattle.composing.proofs.Counting.{counting-starts, counting-none}
use Rattle.flattening.proofs.Sectors.{pair-new, pair-old}
use Rattle.flattening.proofs.count_stored.Goals as goal
use Rattle.flattening.proofs.count_stored.Goals.{then-sector-gt0+then-is_new, else-sector-gt0, else-sector-gt0-via-then-sector-gt0+else-is_new, else-sector-gt0-via-else-sector-gt0}

pub loop-n-init : goal.loop-n-init
loop-n-init c block = counting-starts block _

pub overflow_add-stored : goal.overflow_add-stored
overflow_add-stored c = omega (arith, c.loop-n.invariant 0, items-few 0 (sector_of c.args.pair) c.loop-n.n)

pub loop-n-preserved : goal.loop-n-preserved
loop-n-preserved c block =
    let g = c.loop-n.invariant block in
    elim c.if-sector-gt0.branch [
      | then-sector-gt0+then-is_new w ↦ w.stored-is ∙ pair-new block _ _ g (rw c.sector.ensures at w.if-sector-gt0.true) (sym w.if-is_new.true ∙ w.is_new.ensures)
      | else-sector-gt0 w ↦
          w.stored-is ∙ elim w.else-sector-gt0.branch [
            | else-sector-gt0-via-then-sector-gt0+else-is_new v ↦ pair-old block _ _ g (sym v.if-is_new.false ∙ v.is_new.ensures)
            | else-sector-gt0-via-else-sector-gt0 v ↦ counting-none block _ _ g (omega (arith, ap length c.sector.ensures, v.if-sector-gt0.false))
          ]
    ]

pub returns : goal.returns
returns c block =
    let e : c.loop-n.n ≡ (held c.args.pair.child).count = omega arith in
    c.loop-n.invariant block ∙ ap (λ n. length (stored_of block (sector_of c.args.pair) n).items) e
