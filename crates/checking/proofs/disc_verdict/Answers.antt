-- `checking::disc_verdict` meets its contract. Assumes nothing.
use mathlib.Core.Path.{sym, ◌∙◌}
use Rattle.format.proofs.Chains.{early, stop, on, stops, goes, by}
use Rattle.checking.proofs.Disc.{disc-opened}
use Rattle.checking.proofs.disc_verdict.Goals as goal

pub returns-in_err-kind_verdict : goal.returns-in_err-kind_verdict
returns-in_err-kind_verdict c = early c.from_residual.ensures (stops _ c.in_err-kind_verdict.ensures ∙ sym (disc-opened _ _ _ c.args.image.opens))

pub returns-then-any_outside : goal.returns-then-any_outside
returns-then-any_outside c =
    rw c.of.ensures
    (goes c.in_ok-kind_verdict.ensures (stop _ (by c.any_outside.ensures c.if-any_outside.true))
    ∙ sym (disc-opened _ _ _ c.args.image.opens))

pub returns : goal.returns
returns c =
    goes c.in_ok-kind_verdict.ensures
    (on _ (by c.any_outside.ensures c.if-any_outside.false) c.sectors_verdict.ensures)
    ∙ sym (disc-opened _ _ _ c.args.image.opens)
