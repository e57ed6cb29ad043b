-- `opening::Opened::entry_number` meets its contract. Assumes nothing.
use mathlib.Core.Path.{◌≡◌}
use native.Mathlib.Omega.{arith}
use lib.IntN.{nat_abs}
use borrow.Author.Rules.{rules}
use mir.Syntax.{w64}
use mir.Val.{SFits}
use mir.Facts.{to_z-of_z}
use Rattle.fields.proofs.Signs.{sign-is}
use Rattle.format.proofs.Numbers.{numbered-at, past-outside, displaced-up, displaced-down, displaced-below}
use Rattle.opening.specs.Answers.{IsNumbered}
use Rattle.opening.proofs.Opened.entry_number.Goals as goal
use Rattle.opening.proofs.Opened.entry_number.Goals.{After-magnitude-n, After-struct_told-1}

address : (c : After-struct_told-1) → SFits w64 c.args.a.0
address c = search rules

size : (c : After-magnitude-n) → c.magnitude-n.result ≡ nat_abs c.args.a.0
size c = let a : SFits w64 c.args.a.0 = search rules in rw (to_z-of_z a) at c.magnitude-n.ensures

pub returns-then-up-n : goal.returns-then-up-n
unfolding IsNumbered
returns-then-up-n c = displaced-below _ _ (size (goal.at.returns-then-up-n c).After-magnitude-n) (sign-is _ (address (goal.at.returns-then-up-n c).After-struct_told-1) c.if-a-lt0.true) c.if-up-n.true

pub returns-then-number-count : goal.returns-then-number-count
unfolding IsNumbered
returns-then-number-count c = numbered-at _ _ _ (displaced-down _ _ (size (goal.at.returns-then-number-count c).After-magnitude-n) (sign-is _ (address (goal.at.returns-then-number-count c).After-struct_told-1) c.if-a-lt0.true) c.if-up-n.false) c.if-number-count.true

pub returns-then-a-lt0 : goal.returns-then-a-lt0
unfolding IsNumbered
returns-then-a-lt0 c = past-outside _ _ _ (displaced-down _ _ (size (goal.at.returns-then-a-lt0 c).After-magnitude-n) (sign-is _ (address (goal.at.returns-then-a-lt0 c).After-struct_told-1) c.if-a-lt0.true) c.if-up-n.false) c.if-number-count.false

pub returns-then-count-up : goal.returns-then-count-up
unfolding IsNumbered
returns-then-count-up c = past-outside _ _ _ (displaced-up _ _ (size (goal.at.returns-then-count-up c).After-magnitude-n) (sign-is _ (address (goal.at.returns-then-count-up c).After-struct_told-1) c.if-a-lt0.false)) (omega arith)

pub returns-then-n-count : goal.returns-then-n-count
unfolding IsNumbered
returns-then-n-count c = numbered-at _ _ _ (displaced-up _ _ (size (goal.at.returns-then-n-count c).After-magnitude-n) (sign-is _ (address (goal.at.returns-then-n-count c).After-struct_told-1) c.if-a-lt0.false)) (omega arith)

pub returns : goal.returns
unfolding IsNumbered
returns c = past-outside _ _ _ (displaced-up _ _ (size (goal.at.returns c).After-magnitude-n) (sign-is _ (address (goal.at.returns c).After-struct_told-1) c.if-a-lt0.false)) (omega arith)
