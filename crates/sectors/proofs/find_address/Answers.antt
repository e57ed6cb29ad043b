-- `sectors::find_address` meets its contract. Assumes nothing.
use mathlib.Core.Path.{subst}
use Rattle.format.specs.Reading.{address_verdict, pointer_of}
use Rattle.format.proofs.Chains.{stop, on-last, refuses, answers}
use Rattle.opening.specs.Answers.{IsNumbered}
use Rattle.sectors.proofs.find_address.Goals as goal

pub find-requires : goal.find-requires
unfolding IsNumbered
find-requires c =
    let q = subst (IsNumbered _ _) c.in-Some.is c.entry_number.ensures in
    (q.2, c.requires)

pub returns-in-Some : goal.returns-in-Some
unfolding address_verdict pointer_of IsNumbered
returns-in-Some c =
    let q = subst (IsNumbered _ _) c.in-Some.is c.entry_number.ensures in
    answers _ _ (on-last _ q.0) (rw q.1 c.find.ensures)

pub returns-in-None : goal.returns-in-None
unfolding address_verdict IsNumbered
returns-in-None c =
    let q = subst (IsNumbered _ _) c.in-None.is c.entry_number.ensures in
    rw c.of.ensures (refuses _ (stop _ q))
