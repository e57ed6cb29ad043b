-- `indexing::kept_entry` meets its contract. Assumes nothing.
use mathlib.Core.Path.{sym}
use Rattle.format.specs.Committing.{kept_entry}
use Rattle.format.proofs.Tests.{choose-true, choose-false}
use Rattle.format.proofs.Chains.{by}
use Rattle.indexing.proofs.kept_entry.Goals as goal

pub returns-then-is_user_data : goal.returns-then-is_user_data
unfolding kept_entry
returns-then-is_user_data c = sym (choose-true _ _ _ (by c.is_user_data.ensures c.if-is_user_data.true))

pub returns : goal.returns
unfolding kept_entry
returns c = sym (choose-false _ _ _ (by c.is_user_data.ensures c.if-is_user_data.false))
