-- `text::Writer::byte` meets its contract. Assumes nothing.
use mathlib.Core.Path.{refl}
use native.Mathlib.Omega.{arith}
use Rattle.text.proofs.Writes.{writes_byte}
use Rattle.text.proofs.Appends.{appends-full}
use Rattle.text.proofs.Writer.byte.Goals as goal

pub returns-then-self : goal.returns-then-self
returns-then-self c = record { lent = refl; written = writes_byte _ _ _ (omega arith) }

pub returns-else-self : goal.returns-else-self
returns-else-self c = appends-full _ _ (omega arith)
