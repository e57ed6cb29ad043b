-- What a parent's refusal becomes, for the proof of `parent_refusal` to find.
use Rattle.format.proofs.Overlaying.{parent-20, parent-21, parent-other}

pub ruleset parent_numbers = (parent-20, parent-21, parent-other)
