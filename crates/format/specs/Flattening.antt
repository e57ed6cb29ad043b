-- 8/13, flattening a disc over its parent: it "makes a new image in a third buffer, as creating with the child's count and one commit (timed as in import) of
-- all sectors of the pair that aren't 21 would (creating alone if there are none)". 11/13 refuses a child with a table of the second kind, so its addresses
-- are the numbers of its table entries; the parent's table may be of either kind.
use Rattle.std.specs.Prelude.{Bool, false, List, [], ◌∷◌, map, ℕ, zero, suc, length, ℤ, pos, Ok, Err}
use mathlib.Core.List as list
use Rattle.format.specs.declared.Placed.{Placed}
use Rattle.format.specs.Tests.{same, differs, below, ◌or◌}
use Rattle.format.specs.Refusals.{refusal, row, ◌then◌, first_refusal, Answer, answer, Verdict}
use Rattle.format.specs.Layouts.{application_length, index_offset}
use Rattle.format.specs.Opening.{opened}
use Rattle.format.specs.Writing.{most_sectors, largest_size, most_addresses, longest_buffer, writable_verdict, Outcome}
use Rattle.format.specs.Creating.{create}
use Rattle.format.specs.Committing.{other_than_21, commit}
use Rattle.format.specs.Importing.{and_then}
use Rattle.format.specs.Overlaying.{read_over}

-- ---- the sectors of the pair
-- "the child's count"
abbrev pub count_of : List ℕ → ℕ
count_of child = (opened child (index_offset child)).count

unfoldable pub pair_at : List ℕ → List ℕ → ℕ → Answer (List ℕ)
pair_at child parent n = read_over child parent (pos n)

-- an address that has a sector, and the sector
pub record Written : Type 0 where
  pub address : ℕ
  pub sector : List ℕ

unfoldable pub with_sector : ℕ → Answer (List ℕ) → List Written → List Written
with_sector n (Ok sector) ws = record { address = n; sector = sector } ∷ ws
with_sector n (Err r) ws = ws

-- those of the k addresses from n on, where a disc reads so
unfoldable pub written_from : (ℕ → Answer (List ℕ)) → ℕ → ℕ → List Written
written_from disc zero n = []
written_from disc (suc k) n = with_sector n (disc n) (written_from disc k (suc n))

-- "all sectors of the pair that aren't 21"
unfoldable pub written_of : List ℕ → List ℕ → List Written
written_of child parent = written_from (pair_at child parent) (count_of child) 0

-- as a commit takes them: the addresses, the size, the sectors one after another
unfoldable pub addresses_of : List Written → List ℤ
addresses_of ws = map (λ (w : Written). pos w.address) ws

unfoldable pub size_of : List Written → ℕ
size_of [] = 0
size_of (w ∷ ws) = length w.sector

unfoldable pub sectors_of : List Written → List ℕ
sectors_of ws = list.flatten (map (λ (w : Written). w.sector) ws)

-- one of them has another size than this
unfoldable pub any_other : ℕ → List Written → Bool
any_other size [] = false
any_other size (w ∷ ws) = differs (length w.sector) size or any_other size ws

-- ---- "flattening's order is 31, 33, the child's opening numbers, the sectors' other than 21 by rising address, 40, mixed sizes, 30, 35"; 74 "after opening's"
unfoldable pub verdict_of : {A : Type 0} → Answer A → Verdict
verdict_of (Ok a) = Ok tt
verdict_of (Err r) = Err r

unfoldable pub pair_verdict : List ℕ → List ℕ → Verdict
pair_verdict child parent = first_refusal (λ n. other_than_21 (verdict_of (pair_at child parent n))) (count_of child) 0

-- 40 and 30, of so many sectors of a disc
unfoldable pub sizes_verdict : ℕ → List Written → Verdict
sizes_verdict count ws =
    row (any_other (size_of ws) ws) (refusal 40 0)
    then row (same count 0 or below most_sectors count or below largest_size (size_of ws) or below most_addresses (length ws)) (refusal 30 0)

-- 31 and 33
unfoldable pub lent_verdict : List ℕ → List ℕ → Verdict
lent_verdict buffer application =
    row (below longest_buffer (length buffer)) (refusal 31 0)
    then row (differs (length application) application_length) (refusal 33 0)

-- 35, behind them, is that of the two calls
unfoldable pub flatten_verdict : List ℕ → List ℕ → List ℕ → List ℕ → Verdict
flatten_verdict buffer child parent application =
    lent_verdict buffer application
    then writable_verdict child (index_offset child)
    then pair_verdict child parent
    then sizes_verdict (count_of child) (written_of child parent)

-- ---- "as creating .. and one commit .. would (creating alone if there are none)": the commit to the image that a creation, which answered p, left
unfoldable pub commit_all : List ℕ → Placed → List Written → ℕ → Outcome Placed
commit_all buffer p [] time = record { result = Ok p; buffer = buffer }
commit_all buffer p (w ∷ ws) time = commit buffer p.used (addresses_of (w ∷ ws)) (size_of (w ∷ ws)) (sectors_of (w ∷ ws)) time

unfoldable pub flatten : List ℕ → List ℕ → List ℕ → List ℕ → ℕ → ℕ → ℕ → ℕ → ℕ → Outcome Placed
flatten buffer child parent application major minor mediaType creationTime lastWrittenTime =
    and_then buffer (answer (flatten_verdict buffer child parent application) (count_of child)) (λ count.
    let created = create buffer count application major minor mediaType creationTime lastWrittenTime in
    and_then buffer created.result (λ p.
    commit_all created.buffer p (written_of child parent) lastWrittenTime))
