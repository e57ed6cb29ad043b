-- `opening::Opened::is_outside` meets its contract. Assumes nothing.
use mathlib.Core.Bool.{Bool, true, false, not, true≢false}
use mathlib.Core.Path.{◌≡◌, sym}
use lib.IntN.{ℤ}
use Rattle.std.specs.Prelude.{Option, Some, None, is_some}
use Rattle.format.specs.declared.EntryNumber.{EntryNumber}
use Rattle.format.specs.Opening.{Opened}
use Rattle.format.specs.Reading.{outside}
use Rattle.opening.specs.Answers.{IsNumbered}
use Rattle.opening.proofs.Opened.is_outside.Goals as goal

none-outside : (t : Opened) (a : ℤ) (o : Option EntryNumber) (r : Bool) → is_some o ≡ not r → IsNumbered t a o → r ≡ outside t a
unfolding IsNumbered
none-outside t a (Some n) true h i = absurd (true≢false h)
none-outside t a (Some n) false h i = sym i.0
none-outside t a None true h i = sym i
none-outside t a None false h i = absurd (true≢false (sym h))

pub returns : goal.returns
returns c = none-outside _ _ _ _ c.is_none.ensures c.entry_number.ensures
