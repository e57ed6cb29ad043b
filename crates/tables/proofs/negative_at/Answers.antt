-- `tables::negative_at` meets its contract. Assumes nothing.
use native.Mathlib.Omega.{arith}
use Rattle.format.specs.Layouts.{table_negative}
use Rattle.tables.proofs.negative_at.Goals as goal

pub get_short-requires : goal.get_short-requires
get_short-requires c =
    let e = c.in-Second.is in
    let p = rw e at c.requires in
    omega arith

pub returns-in-First : goal.returns-in-First
unfolding table_negative
returns-in-First c = rw c.in-First.is

pub returns-in-Second : goal.returns-in-Second
unfolding table_negative
returns-in-Second c = rw c.in-Second.is c.get_short.ensures
