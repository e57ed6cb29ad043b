use mathlib.Core.Path.{refl}
use Prim.Native.Nat.{◌<◌}
use native.Mathlib.Omega.{arith}
use lib.ListN.{length}
use Rattle.search.specs.Found.{item_found}
use Rattle.search.proofs.First.{search-done, bytes-agree, bytes-differ, bytes-done}
use Rattle.search.proofs.Stored.{room, among-starts, among-compares}
use Rattle.search.proofs.among.Goals as goal
use Rattle.search.proofs.among.Goals.{Else-j-size}

-- past the test, a byte is left
short : (c : Else-j-size) → c.loop-j.j < length c.args.sector.now
short c = omega arith

pub search-init : goal.search-init
search-init c = (refl, among-starts c.args.s.now c.args.at.0 c.args.n c.args.sector.now)

pub loop-j-init : goal.loop-j-init
loop-j-init c =
    (c.search.invariant.0, among-compares c.args.s.now c.args.at.0 c.args.n c.args.sector.now c.search.invariant.1 c.search-test.true c.requires)

pub loop-j-preserved : goal.loop-j-preserved
loop-j-preserved c =
    (c.loop-j.invariant.0, bytes-agree _ _ _ c.loop-j.invariant.1 (short (goal.at.loop-j-preserved c).Else-j-size) c.if-s-start.false)

pub search-preserved : goal.search-preserved
search-preserved c =
    (c.loop-j.invariant.0, bytes-differ _ _ _ c.loop-j.invariant.1 (short (goal.at.search-preserved c).Else-j-size) c.if-s-start.true)

pub returns-after-search : goal.returns-after-search
unfolding item_found
returns-after-search c = rw c.search.invariant.0 (search-done _ _ _ c.search.invariant.1 c.search-test.false)

pub returns-then-j-size : goal.returns-then-j-size
unfolding item_found
returns-then-j-size c = bytes-done _ _ _ c.loop-j.invariant.1 (omega arith)

pub overflow_mul-start : goal.overflow_mul-start
overflow_mul-start c = omega (arith, room (length c.args.sector.now) c.search-test.true)

pub overflow_add-start : goal.overflow_add-start
overflow_add-start c = omega (arith, room (length c.args.sector.now) c.search-test.true)
