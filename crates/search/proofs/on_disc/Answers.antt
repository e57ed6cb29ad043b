use mathlib.Core.Path.{refl}
use Prim.Native.Nat.{◌<◌}
use native.Mathlib.Omega.{arith}
use lib.ListN.{length}
use Rattle.format.specs.Committing.{on_disc}
use Rattle.format.proofs.Chains.{by}
use Rattle.search.specs.Found.{entry_found}
use Rattle.search.proofs.First.{search-starts, search-goes, search-done, bytes-agree, bytes-differ, bytes-done}
use Rattle.search.proofs.Disc.{empty-other, size-other, size_same}
use Rattle.search.proofs.on_disc.Goals as goal
use Rattle.search.proofs.on_disc.Goals.{Else-j-size, then-loop-a-test+in-Some+else-place-size+then-j-size, else-loop-a-test}

-- past the test, a byte is left
short : (c : Else-j-size) → c.loop-j.j < length c.args.sector.now
short c = omega (arith, c.loop-j.invariant.1.most)

pub loop-a-init : goal.loop-a-init
unfolding on_disc
loop-a-init c = search-starts _ _ _ refl

pub slot_at-requires : goal.slot_at-requires
slot_at-requires c = (c.requires, omega arith)

pub loop-a-preserved-in_default : goal.loop-a-preserved-in_default
loop-a-preserved-in_default c =
    search-goes _ _ _ c.loop-a.invariant (omega arith) (empty-other _ _ _ _ (by c.in_default.is c.slot_at.ensures))

pub loop-a-preserved-then-place-size : goal.loop-a-preserved-then-place-size
loop-a-preserved-then-place-size c =
    let p = c.in-Some.place in
    search-goes _ _ _ c.loop-a.invariant (omega arith)
    (size-other _ _ _ _ p c.requires (omega arith) (by c.in-Some.is c.slot_at.ensures) c.if-place-size.true)

pub loop-j-init : goal.loop-j-init
loop-j-init c =
    let p = c.in-Some.place in
    (refl, size_same _ _ _ _ p c.requires (omega arith) (by c.in-Some.is c.slot_at.ensures) c.loop-a.invariant c.if-place-size.false)

pub loop-a-preserved : goal.loop-a-preserved
loop-a-preserved c = bytes-differ _ _ _ c.loop-j.invariant.1 (short (goal.at.loop-a-preserved c).Else-j-size) c.if-s-start.true

pub loop-j-preserved : goal.loop-j-preserved
loop-j-preserved c =
    (c.loop-j.invariant.0, bytes-agree _ _ _ c.loop-j.invariant.1 (short (goal.at.loop-j-preserved c).Else-j-size) c.if-s-start.false)

pub returns-then-found-count : goal.returns-then-found-count
unfolding entry_found
returns-then-found-count c = elim c.loop-a-test.branch [
  | then-loop-a-test+in-Some+else-place-size+then-j-size w ↦ absurd (omega (arith, c.if-found-count.true, w.found-is, w.loop-a-test))
  | else-loop-a-test w ↦ search-done _ _ _ c.loop-a.invariant (omega (arith, w.loop-a-test))
]

pub returns : goal.returns
unfolding entry_found
returns c = elim c.loop-a-test.branch [
  | then-loop-a-test+in-Some+else-place-size+then-j-size w ↦ rw w.found-is (bytes-done _ _ _ w.loop-j.invariant.1 (omega arith))
  | else-loop-a-test w ↦ absurd (c.if-found-count.false w.found-is)
]
