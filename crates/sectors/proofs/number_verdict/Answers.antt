-- `sectors::number_verdict` meets its contract. Assumes nothing.
use native.Mathlib.Omega.{arith}
use Rattle.format.proofs.Tests.{at_least-true, at_least-iff}
use Rattle.format.proofs.Chains.{stop-last, on-last}
use Rattle.sectors.proofs.number_verdict.Goals as goal

pub nonzero_div-length : goal.nonzero_div-length
nonzero_div-length c = let k = c.requires.size in omega arith

pub returns-then-length-size : goal.returns-then-length-size
returns-then-length-size c =
    rw c.at.ensures
    (rw (← c.get-length.ensures, ← c.get-size.ensures)
    (stop-last (at_least-true _ _ (omega arith))))

pub returns : goal.returns
returns c =
    rw (← c.get-length.ensures, ← c.get-size.ensures)
    (on-last _ (at_least-iff.1 (omega arith)))
