use native.Mathlib.Omega.{arith}
use mathlib.Core.Path.{sym, ap, ◌∙◌, ◌≡◌}
use lib.ListN.{length}
use Rattle.planning.specs.Plans.{sector_of}
use Rattle.composing.specs.Composes.{stored_of}
use Rattle.composing.proofs.Handed.{items-few}
use Rattle.composing.proofs.Counting.{counting-starts}
use Rattle.importing.proofs.File.{sector-inside, file-new, file-old}
use Rattle.importing.proofs.count_stored.Goals as goal

pub loop-k-init : goal.loop-k-init
loop-k-init c = (omega arith, λ block. counting-starts block _)

pub is_new-requires : goal.is_new-requires
is_new-requires c = omega (arith, sector-inside c.requires c.loop-k-test.true)

pub overflow_add-stored : goal.overflow_add-stored
overflow_add-stored c =
    omega (arith, c.loop-k.invariant.1 0, items-few 0 (sector_of c.args.size c.args.file.now) c.loop-k.k, c.requires.few)

pub loop-k-preserved : goal.loop-k-preserved
loop-k-preserved c =
    (omega arith, λ block. file-new c.requires block _ c.loop-k-test.true (c.loop-k.invariant.1 block) (sym c.if-not-is_new.false ∙ c.is_new.ensures))

pub loop-k-preserved-then-not-is_new : goal.loop-k-preserved-then-not-is_new
loop-k-preserved-then-not-is_new c =
    (omega arith, λ block. file-old c.requires block _ c.loop-k-test.true (c.loop-k.invariant.1 block) (sym c.if-not-is_new.true ∙ c.is_new.ensures))

pub returns : goal.returns
returns c block =
    let e : c.loop-k.k ≡ c.args.count = omega arith in
    c.loop-k.invariant.1 block ∙ ap (λ n. length (stored_of block (sector_of c.args.size c.args.file.now) n).items) e
