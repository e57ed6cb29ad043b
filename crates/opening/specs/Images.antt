-- The opened image in the terms of the definitions.
use Rattle.std.specs.Prelude.{Ok, Err}
use Rattle.format.specs.Refusals.{Answer}
use Rattle.format.specs.Opening as format
use Rattle.opening.specs.declared.image.Image.{Image}
use Rattle.opening.specs.Answers.{contents}

-- what it holds beside the bytes
abbrev pub held : Image → format.Opened
held image = contents image.found

-- what opening found, or the refusal
unfoldable pub outcome_of : Answer Image → Answer format.Opened
outcome_of (Ok image) = Ok (held image)
outcome_of (Err r) = Err r
