-- Demand 3's history (01's own term): "a list of calls on one buffer, of any length, also empty. It starts with the buffer and the `used`
-- that an accepted creation left and returned. Each call is a commit or a rollback whose other arguments are free." 4/13: it "may start with an import, whose
-- one returned offset counts": the offset that the creation in it returned is no point.
use Rattle.std.specs.Prelude.{List, [], ◌∷◌, ◌≡◌, ℕ, take, ℤ, Ok, Err}
use Rattle.format.specs.declared.Placed.{Placed}
use Rattle.format.specs.Lists.{Any, IsBytes}
use Rattle.format.specs.Refusals.{Answer}
use Rattle.format.specs.Reading.{read}
use Rattle.format.specs.Writing.{Outcome}
use Rattle.format.specs.Creating.{create}
use Rattle.format.specs.Committing.{commit}
use Rattle.format.specs.RollingBack.{rollback}
use Rattle.format.specs.Importing.{import}

-- how a history starts
pub data Start : Type 0 where
  creates : (count : ℕ) (application : List ℕ) (major minor mediaType creationTime lastWrittenTime : ℕ) → Start
  imports : (file : List ℕ) (size : ℕ) (application : List ℕ) (major minor mediaType creationTime lastWrittenTime : ℕ) → Start

unfoldable pub start_on : List ℕ → Start → Outcome Placed
start_on buffer (creates count application major minor mediaType creationTime lastWrittenTime) =
    create buffer count application major minor mediaType creationTime lastWrittenTime
start_on buffer (imports file size application major minor mediaType creationTime lastWrittenTime) =
    import buffer file size application major minor mediaType creationTime lastWrittenTime

-- it is handed bytes
unfoldable pub OfBytes : Start → Type 0
OfBytes (creates count application major minor mediaType creationTime lastWrittenTime) = IsBytes application
OfBytes (imports file size application major minor mediaType creationTime lastWrittenTime) = IsBytes file × IsBytes application

pub data Call : Type 0 where
  commits : (addresses : List ℤ) (size : ℕ) (sectors : List ℕ) (time : ℕ) → Call
  rolls_back : (offset time : ℕ) → Call

-- a point (01's own term): "the disc as it reads right after the creation", or the import, "or an accepted commit", with the offset that was returned
pub record Point : Type 0 where
  pub offset : ℕ
  pub disc : ℤ → Answer (List ℕ)

-- a moment (01's own term) of a history, with the points so far, the newest first
pub record Moment : Type 0 where
  pub buffer : List ℕ
  pub used : ℕ
  pub points : List Point

-- "a read of the first `used` bytes, with the buffer and `used` of its moment"
unfoldable pub reads : Moment → ℤ → Answer (List ℕ)
reads m = read (take m.used m.buffer)

-- "Two moments read the same if, for every address that a read can be handed, a read .. gives the same bytes, length included, or the
-- same refusal." By 1/13 a refusal is its number and its place: two moments read the same only if the places agree too.
unfoldable pub ReadTheSame : (ℤ → Answer (List ℕ)) → (ℤ → Answer (List ℕ)) → Type 0
ReadTheSame one other = (a : ℤ) → one a ≡ other a

-- the point that a creation, an import or a commit makes, which answered p and left this buffer
unfoldable pub point_now : List ℕ → Placed → Point
point_now buffer p = record { offset = p.index.0; disc = read (take p.used buffer) }

-- the moment after an accepted start
unfoldable pub started : List ℕ → Placed → Moment
started buffer p = record { buffer = buffer; used = p.used; points = point_now buffer p ∷ [] }

-- a call at a moment
unfoldable pub outcome_of : Moment → Call → Outcome Placed
outcome_of m (commits addresses size sectors time) = commit m.buffer m.used addresses size sectors time
outcome_of m (rolls_back offset time) = rollback m.buffer m.used offset time

-- an accepted commit adds a point, a rollback none
unfoldable pub points_after : List Point → Call → List ℕ → Placed → List Point
points_after ps (commits addresses size sectors time) buffer p = point_now buffer p ∷ ps
points_after ps (rolls_back offset time) buffer p = ps

-- the moment after a call, by its answer and the buffer that it left
unfoldable pub moment_after : Moment → Call → Answer Placed → List ℕ → Moment
moment_after m c (Err r) buffer = record { buffer = buffer; used = m.used; points = m.points }
moment_after m c (Ok p) buffer = record { buffer = buffer; used = p.used; points = points_after m.points c buffer p }

unfoldable pub after : Moment → Call → Moment
after m c = moment_after m c (outcome_of m c).result (outcome_of m c).buffer

-- the moment after a whole list of calls
unfoldable pub at_end : Moment → List Call → Moment
at_end m [] = m
at_end m (c ∷ cs) = at_end (after m c) cs

-- every call of a list is so, at the moment when it is made
pub data Throughout (P : Moment → Call → Type 0) : Moment → List Call → Type 0 where
  end : {m : Moment} → Throughout P m []
  made : {m : Moment} {c : Call} {cs : List Call} → P m c → Throughout P (after m c) cs → Throughout P m (c ∷ cs)

-- what a history asks of a call. "An accepted rollback goes to an offset that the creation or an accepted commit before it returned; a
-- refused one may be handed any offset." A commit is handed bytes.
unfoldable pub Permitted : Moment → Call → Type 0
Permitted m (commits addresses size sectors time) = IsBytes sectors
Permitted m (rolls_back offset time) =
    (p : Placed) → (rollback m.buffer m.used offset time).result ≡ Ok p → Any (λ (q : Point). q.offset ≡ offset) m.points
