-- What the programs `export` and `import` print. 4/13: "A program for each, from standard input to standard output through buffers of 65,536 bytes, prints
-- `too long` for a longer input and, for every refusal, 35 and 41 too, `refused` as the listing does; the importing one takes size 2,048 and zeros for
-- creating's other arguments." 9/13: "The former rule stays under its own name; 4/13's program and round trip ask for it."
use Rattle.std.specs.Prelude.{List, ℕ, take, replicate, Ok, Err}
use Rattle.format.specs.declared.Placed.{Placed}
use Rattle.format.specs.Refusals.{Answer}
use Rattle.format.specs.Writing.{Outcome}
use Rattle.format.specs.Exporting.{export_exact}
use Rattle.format.specs.Importing.{import}
use Rattle.text.specs.Text.{refused_line, unless_long}

-- so many bytes of a buffer as an accepted call answers, by this of its values; or the line of its refusal
unfoldable pub shown : {A : Type 0} → (A → ℕ) → Answer A → List ℕ → List ℕ
shown size (Ok a) buffer = take (size a) buffer
shown size (Err r) buffer = refused_line r.number

unfoldable pub text : {A : Type 0} → (A → ℕ) → List ℕ → Outcome A → List ℕ
text size input o = unless_long input (shown size o.result o.buffer)

abbrev pub zeros : ℕ → List ℕ
zeros n = replicate n 0

unfoldable pub export_text : List ℕ → List ℕ
export_text input = text (λ n. n) input (export_exact input (zeros 65536))

unfoldable pub import_text : List ℕ → List ℕ
import_text input = text (λ (p : Placed). p.used) input (import (zeros 65536) input 2048 (zeros 64) 0 0 0 0 0)
