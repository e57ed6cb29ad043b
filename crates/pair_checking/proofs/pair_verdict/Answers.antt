-- `pair_checking::pair_verdict` meets its contract. Assumes nothing.
use borrow.Author.Rules.{rules}
use mathlib.Core.Path.{◌≡◌, ap, ◌∙◌}
use Rattle.std.specs.Prelude.{Ok, Err}
use Rattle.format.specs.Opening.{opening}
use Rattle.format.proofs.Chains.{early}
use Rattle.opening.specs.Images.{held, outcome_of}
use Rattle.checking.specs.Checked.{leaves, FirstWithin}
use Rattle.pair_checking.proofs.Images.{opening-added}
use Rattle.pair_checking.proofs.Pair.{gap-refused, no-gap-refused, found-added, left-handed, none-refused}
use Rattle.pair_checking.proofs.pair_verdict.Goals as goal
use Rattle.pair_checking.proofs.pair_verdict.Goals.{In-Ok, In-Err, After-first_left-other}

-- the parent does not open, and it opens
unopened : (c : In-Err) → opening c.args.parent.bytes.now ≡ Err c.in-Err.r
unfolding outcome_of
unopened c = c.args.parent.opens ∙ ap outcome_of c.in-Err.is

opens : (c : In-Ok) → opening c.args.parent.bytes.now ≡ Ok (held c.in-Ok.image)
unfolding outcome_of
opens c = c.args.parent.opens ∙ ap outcome_of c.in-Ok.is

-- the first that the child leaves to it
left : (c : After-first_left-other)
    → let child = c.args.child in
    let t = held c.in-Ok.image in
    FirstWithin c.args.parent.bytes.now t (leaves child.bytes.now (held child) c.first_refused-own.result.number.0 t) c.first_left-other.result
left c = rw (c.args.parent.lent _ c.in-Ok.is) at c.first_left-other.ensures

pub parent_refusal-requires : goal.parent_refusal-requires
parent_refusal-requires c = (opening-added _ _ (unopened (goal.at.parent_refusal-requires c).In-Err)).2

pub returns-then-lt : goal.returns-then-lt
returns-then-lt c =
    ap Err c.parent_refusal.ensures
    ∙ gap-refused _ _ _ c.args.child.opens c.requires c.first_refused-own.ensures _ (unopened (goal.at.returns-then-lt c).In-Err) c.first_unwritten-gap.ensures (search rules)

pub map_err-requires : goal.map_err-requires
map_err-requires c r e =
    let at = goal.at.map_err-requires c in
    (found-added _ _ _ c.args.child.opens c.requires c.first_refused-own.ensures _ (opens at.In-Ok) (left at.After-first_left-other) r e).2

pub returns-in_err-map_err-in-Ok : goal.returns-in_err-map_err-in-Ok
returns-in_err-map_err-in-Ok c =
    let at = goal.at.returns-in_err-map_err-in-Ok c in
    early c.from_residual.ensures
    (left-handed _ _ _ c.args.child.opens c.requires c.first_refused-own.ensures _ (opens at.In-Ok) (left at.After-first_left-other) _ c.in_err-map_err-in-Ok.ensures.cases)

pub returns-else-lt : goal.returns-else-lt
returns-else-lt c =
    no-gap-refused _ _ _ c.args.child.opens c.requires c.first_refused-own.ensures _ (unopened (goal.at.returns-else-lt c).In-Err) c.first_unwritten-gap.ensures (search rules)

pub returns-in_ok-map_err-in-Ok : goal.returns-in_ok-map_err-in-Ok
returns-in_ok-map_err-in-Ok c =
    let at = goal.at.returns-in_ok-map_err-in-Ok c in
    none-refused _ _ _ c.args.child.opens c.requires c.first_refused-own.ensures _ (opens at.In-Ok) (left at.After-first_left-other) c.in_ok-map_err-in-Ok.ensures.cases
