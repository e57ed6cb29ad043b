-- `tables::alignment_at` meets its contract. Assumes nothing.
use native.Mathlib.Omega.{arith}
use Rattle.format.specs.Layouts.{table_alignment}
use Rattle.tables.proofs.alignment_at.Goals as goal

pub get-requires : goal.get-requires
get-requires c =
    let e = c.in-Second.is in
    let p = rw e at c.requires in
    omega arith

pub returns-in-First : goal.returns-in-First
unfolding table_alignment
returns-in-First c = rw c.in-First.is

pub returns-in-Second : goal.returns-in-Second
unfolding table_alignment
returns-in-Second c = rw c.in-Second.is c.get.ensures
