-- `opening::Opened::address` meets its contract. Assumes nothing.
use borrow.Author.Rules.{rules}
use Rattle.fields.proofs.Signs.{difference-fits, difference-is}
use Rattle.opening.proofs.Opened.address.Goals as goal

pub overflow_sub-result : goal.overflow_sub-result
overflow_sub-result c = difference-fits c.args.n.0 c.args.self.negative c.requires (search rules)

pub returns : goal.returns
returns c = difference-is c.args.n.0 c.args.self.negative c.requires (search rules)
