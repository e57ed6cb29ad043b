-- What a writer holds, and a text that it appends to what it has written.
use Rattle.std.specs.Prelude.{List, ◌≡◌, ℕ}
use Rattle.std.specs.Borrow.{GName}
use Rattle.text.specs.declared.Writer.{Writer}
use Rattle.text.specs.Buffer.{Writes}

-- which buffer was lent to it, the buffer's bytes, and the place up to which it has written
abbrev pub lent_to : Writer → GName
lent_to w = w.out.ghost_name

abbrev pub buffer_of : Writer → List ℕ
buffer_of w = w.out.now

abbrev pub place_of : Writer → ℕ
place_of w = w.at

-- it is written to the same buffer, from the writer's place on
pub record Appends (before : Writer) (text : List ℕ) (after : Writer) : Type 0 where
  pub lent : lent_to after ≡ lent_to before
  pub written : Writes (buffer_of before) (place_of before) text (buffer_of after) (place_of after)
