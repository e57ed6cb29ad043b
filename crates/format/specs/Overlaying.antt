-- 8/13, a disc over its parent: "Sectors not written here come from the parent; 'PRNT' is still undefined in source document 004, so the caller lends both
-- images", the child and the parent. Each may have either kind of table; both are read at the same address.
use Rattle.std.specs.Prelude.{List, ℕ, ◌+◌, ℤ, Ok, Err}
use Rattle.format.specs.declared.Place.{Place}
use Rattle.format.specs.declared.Refusal.{Refusal}
use Rattle.format.specs.declared.Sourced.{Sourced}
use Rattle.format.specs.Tests.{same, ◌or◌, choose}
use Rattle.format.specs.Refusals.{refusal, Answer}
use Rattle.format.specs.Reading.{read, locate}

-- "if the parent's own answer is 20 or 21, the answer is 21"; "other parent numbers come back with 100 added, places in the parent"
unfoldable pub parent_refusal : Refusal → Refusal
parent_refusal r = choose (same r.number 20 or same r.number 21) (refusal 21 0) (refusal (100 + r.number) r.place.0)

unfoldable pub from_parent : {A : Type 0} → Answer A → Answer A
from_parent (Ok a) = Ok a
from_parent (Err r) = Err (parent_refusal r)

-- the child's answer over the parent's: "The parent is looked at only where the child answers 21"
unfoldable pub over : {A : Type 0} → Answer A → Answer A → Answer A
over (Ok a) parent = Ok a
over (Err r) parent = choose (same r.number 21) (from_parent parent) (Err r)

-- a disc that reads so, over a parent
unfoldable pub disc_over : List ℕ → (ℤ → Answer (List ℕ)) → ℤ → Answer (List ℕ)
disc_over parent disc a = over (disc a) (read parent a)

-- "A read answers with a part that comes from one image or the other"
unfoldable pub read_over : List ℕ → List ℕ → ℤ → Answer (List ℕ)
read_over child parent = disc_over parent (read child)

-- the same sector by the image that it lies in, 0 for the child and 1 for the parent, and its place there
unfoldable pub in_image : ℕ → Answer Place → Answer Sourced
in_image image (Ok p) = Ok (record { image = image; place = p })
in_image image (Err r) = Err r

unfoldable pub locate_over : List ℕ → List ℕ → ℤ → Answer Sourced
locate_over child parent a = over (in_image 0 (locate child a)) (in_image 1 (locate parent a))

-- "and a second call says which, or gives the same refusal"
unfoldable pub image_of : Answer Sourced → Answer ℕ
image_of (Ok s) = Ok s.image
image_of (Err r) = Err r

unfoldable pub source_over : List ℕ → List ℕ → ℤ → Answer ℕ
source_over child parent a = image_of (locate_over child parent a)
