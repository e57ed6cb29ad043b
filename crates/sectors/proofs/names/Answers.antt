use mathlib.Core.Path.{◌≡◌, refl}
use native.Mathlib.Omega.{arith}
use Rattle.format.specs.Layouts.{DBLK, entries_from}
use Rattle.format.specs.Opening.{offsets_of}
use Rattle.format.specs.Reading.{has}
use Rattle.format.proofs.Chains.{by}
use Rattle.index.proofs.Entries.{start-at, turn-at}
use Rattle.sectors.proofs.Indexed.{indexed-found, indexed-goes, indexed-done}
use Rattle.sectors.proofs.names.Goals as goal

pub loop-k-init : goal.loop-k-init
loop-k-init c =
    let a = c.args in
    start-at (λ k p. has a.b.0 (offsets_of DBLK (entries_from a.s.now k p)) ≡ has a.b.0 (offsets_of DBLK (entries_from a.s.now a.left a.first.0))) a.left a.first.0 refl

pub returns-then-names_block : goal.returns-then-names_block
returns-then-names_block c =
    indexed-found _ _ _ _ _ c.loop-k.invariant (omega arith)
    (rw c.entry.ensures at (by c.names_block.ensures c.if-names_block.true))

pub loop-k-preserved : goal.loop-k-preserved
loop-k-preserved c =
    let a = c.args in
    turn-at (λ k p. has a.b.0 (offsets_of DBLK (entries_from a.s.now k p)) ≡ has a.b.0 (offsets_of DBLK (entries_from a.s.now a.left a.first.0))) a.left a.first.0 c.loop-k.k
    (indexed-goes _ _ _ _ _ c.loop-k.invariant (omega arith)
    (rw c.entry.ensures at (by c.names_block.ensures c.if-names_block.false)))

pub returns : goal.returns
returns c = indexed-done _ _ _ _ _ c.loop-k.invariant (omega arith)
