-- A multiple of a width, by its quotient: for entries of every width. Assumes nothing.
use mathlib.Core.Bool.{true, false}
use mathlib.Core.Logic.{⊎_elim}
use mathlib.Core.Path.{◌≡◌, sym, ap, ◌∙◌}
use Prim.Native.Nat.{ℕ, ◌+◌, ◌*◌, ◌/◌, ◌%◌, ◌<◌}
use native.Mathlib.Nat.{mod-add-div, mul-div_cancel_left}
use native.Mathlib.Omega.{arith}
use lib.Dec.{eqb}
use Rattle.format.specs.Tests.{same}
use Rattle.format.proofs.Tests.{on-or-off, same-on, same_true, same-iff}

-- docs/DECISIONS 88 names it: a length is a width times a count exactly if it is a multiple with that quotient
pub quotient : (length width count : ℕ) → 0 < width → length % width ≡ 0 → eqb (length / width) count ≡ same length (width * count)
unfolding same
quotient length width count p h = ⊎_elim yes no (on-or-off (same (length / width) count))
  where
    whole : length ≡ width * (length / width)
    whole = sym (mod-add-div length width) ∙ ap (λ r. r + width * (length / width)) h ∙ omega arith

    yes : same (length / width) count ≡ true → same (length / width) count ≡ same length (width * count)
    yes e = e ∙ sym (same_true _ _ (whole ∙ ap (λ q. width * q) (same-on _ _ e)))

    no : same (length / width) count ≡ false → same (length / width) count ≡ same length (width * count)
    no e = e ∙ sym (same-iff.1 (λ q. same-iff.0 e (ap (λ n. n / width) q ∙ mul-div_cancel_left count p)))
