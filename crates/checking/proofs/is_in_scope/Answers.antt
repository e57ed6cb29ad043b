-- `checking::is_in_scope` meets its contract. Assumes nothing.
use mathlib.Core.Path.{sym, ap, ◌∙◌}
use Rattle.opening.specs.Answers.{contents}
use Rattle.checking.specs.declared.Scope.{Scope}
use Rattle.checking.specs.Checked.{in_scope}
use Rattle.checking.proofs.is_in_scope.Goals as goal

pub returns-in-All : goal.returns-in-All
unfolding in_scope
returns-in-All c =
    let a = c.args in
    ap (λ (q : Scope). in_scope q (contents a.t) a.n.0) (sym c.in-All.is)

pub returns-in-Gaps : goal.returns-in-Gaps
unfolding in_scope
returns-in-Gaps c =
    let a = c.args in
    c.is_left.ensures ∙ ap (λ (q : Scope). in_scope q (contents a.t) a.n.0) (sym c.in-Gaps.is)
