-- `checking::is_left` meets its contract. Assumes nothing.
use mathlib.Core.Bool.{false}
use borrow.Author.Rules.{rules}
use mathlib.Core.Path.{◌≡◌, ◌∙◌}
use Prim.Native.Nat.{◌<◌}
use Rattle.format.specs.Reading.{outside, entry_number}
use Rattle.opening.specs.Answers.{IsNumbered}
use Rattle.opening.specs.Images.{held}
use Rattle.checking.proofs.Scopes.{not_there, past-limit, left_is}
use Rattle.checking.proofs.is_left.Goals as goal
use Rattle.checking.proofs.is_left.Goals.{In-Some}

-- the child's table entry of the address
there : (c : In-Some)
    → let u = held c.args.c.image in
    let a = c.address.result.0 in
    let m = c.in-Some.m in
    (outside u a ≡ false) × (entry_number u a ≡ m.0) × (m.0 < u.count)
unfolding IsNumbered
there c = c.in-Some.ensures

pub table_entry-requires : goal.table_entry-requires
table_entry-requires c =
    (there (goal.at.table_entry-requires c).In-Some).2

pub returns-then-lt : goal.returns-then-lt
returns-then-lt c =
    left_is _ _ _ _ _ c.address.ensures (there (goal.at.returns-then-lt c).In-Some) (search rules) c.table_entry.ensures c.is_unwritten.ensures

pub returns-in-None : goal.returns-in-None
unfolding IsNumbered
returns-in-None c = not_there _ _ _ _ _ c.address.ensures c.in-None.ensures

pub returns-else-lt : goal.returns-else-lt
returns-else-lt c =
    c.if-lt.false ∙ past-limit _ _ _ _ _ c.address.ensures (there (goal.at.returns-else-lt c).In-Some) (search rules)
