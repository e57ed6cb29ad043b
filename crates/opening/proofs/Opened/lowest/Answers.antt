-- `opening::Opened::lowest` meets its contract. Assumes nothing.
use mathlib.Core.Path.{◌∙◌}
use native.Mathlib.Omega.{arith}
use lib.IntN.{+ℤ_idr}
use borrow.Author.Rules.{rules}
use Rattle.fields.proofs.Signs.{difference-fits, difference-is}
use Rattle.opening.proofs.Opened.lowest.Goals as goal

pub overflow_sub-result : goal.overflow_sub-result
overflow_sub-result c = difference-fits 0 c.args.self.negative (omega arith) (search rules)

pub returns : goal.returns
returns c = difference-is 0 c.args.self.negative (omega arith) (search rules) ∙ +ℤ_idr _
