-- `appending::commit` meets its contract. Assumes nothing.
use native.Mathlib.Omega.{arith}
use mathlib.Core.Path.{sym}
use Rattle.fields.specs.Bytes.{part}
use Rattle.format.specs.Committing.{commit_verdict, append, commit}
use Rattle.format.specs.Answers.{answered}
use Rattle.format.proofs.Checks.{arguments-ok}
use Rattle.format.proofs.Chains.{early-as, stops, goes}
use Rattle.format.proofs.Answers.{outcome-stops}
use Rattle.appending.proofs.commit.Goals as goal

pub part-requires : goal.part-requires
part-requires c = omega (arith, ((arguments-ok _ _ _ _ _).0 c.requires.0).buffer_ok.inside)

pub invariant_of-image : goal.invariant_of-image
unfolding part
invariant_of-image c = record { opens = rw c.part.ensures c.requires.1 }

pub returns-in_err-disc_verdict : goal.returns-in_err-disc_verdict
unfolding commit append commit_verdict part
returns-in_err-disc_verdict c =
    early-as (λ x. answered x c.args.buf.now) c.from_residual.ensures
    (outcome-stops _ _ _ (goes (sym c.requires.0) (stops _ (rw c.part.ensures at c.in_err-disc_verdict.ensures))))

pub append-requires : goal.append-requires
unfolding part
append-requires c =
    let p = c.requires in
    record {
      arguments = p.0;
      opens = p.1;
      disc = sym (rw c.part.ensures at c.in_ok-disc_verdict.ensures);
    }
