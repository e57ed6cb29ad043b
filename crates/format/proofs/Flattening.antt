-- Flattening: its own checks, and then a creation alone, or a creation and one commit (Composing). In one piece: its checks, 35 as the last of them, and what
-- it leaves.
use mathlib.Core.Bool.{true, false}
use mathlib.Core.List.{List, [], ◌∷◌, map, append-nil}
use mathlib.Core.List as list
use mathlib.Core.Logic.Iff
use mathlib.Core.Logic.{◌≢◌, ⊎_elim, ◌↔◌}
use mathlib.Core.Path.{◌≡◌, refl, sym, ap, ◌∙◌, subst}
use Prim.Native.Nat.{ℕ, zero, suc, ◌+◌, ◌*◌, ◌≤◌, ◌<◌}
use native.Mathlib.Nat.{le_refl}
use native.Mathlib.Omega.{arith}
use lib.ListN.{length, length-map}
use lib.IntN.{ℤ, pos}
use Rattle.std.specs.Prelude.{Ok, Err}
use Rattle.fields.specs.Bytes.{overwrite}
use Rattle.format.specs.declared.Placed.{Placed}
use Rattle.format.specs.declared.Refusal.{Refusal}
use Rattle.format.specs.Tests.{below}
use Rattle.format.specs.Lists.{All, done, more}
use Rattle.format.specs.Refusals.{refusal, row, ◌then◌, first_refusal, Answer, answer, Verdict}
use Rattle.format.specs.Layouts.{application_length, index_offset}
use Rattle.format.specs.Writing.{most_sectors, largest_size, most_addresses, longest_buffer, Outcome, outcome, placed}
use Rattle.format.specs.Creating.{created_used, created_index_at, create}
use Rattle.format.specs.Committing.{other_than_21, rising_by, pieces, commit}
use Rattle.format.specs.Importing.{or_leaves, and_then}
use Rattle.format.specs.Overlaying.{disc_over, read_over}
use Rattle.format.specs.Flattening.{count_of, pair_at, Written, with_sector, written_from, written_of, addresses_of, size_of, sectors_of, any_other, verdict_of, pair_verdict, sizes_verdict, lent_verdict, flatten_verdict, commit_all, flatten}
use Rattle.format.specs.Facts.{FlattenArguments}
use Rattle.format.proofs.Tests.{below_true, below-iff, same-iff, differs-iff, or-iff, and-true}
use Rattle.format.proofs.Lists.{not-empty, Sized, all_map, all_head, all_tail, length-flatten}
use Rattle.format.proofs.Refusals.{row-iff, then-iff, then-rest, first_refusal-iff, first_refusal-same}
use Rattle.format.proofs.Checks.{facts, WritableOk, writable-ok}
use Rattle.format.proofs.Buffers.{outcome-accepted, outcome-refused}
use Rattle.format.proofs.Reading.{demand-2-reading, demand-2-returned}
use Rattle.format.proofs.Overlaying.{over-accepted, both_by, read-over}
use Rattle.format.proofs.Storing.{pieces-flatten}
use Rattle.format.proofs.Composing.{checked-then, create-last, made, Composable, composed_used, composed_index, composed_buffer, composed, composed-is}

-- ---- the sectors of the pair, and the addresses that have them
abbrev pub sector_list : List Written → List (List ℕ)
sector_list ws = map (λ (w : Written). w.sector) ws

abbrev pub number_list : List Written → List ℕ
number_list ws = map (λ (w : Written). w.address) ws

addresses-are : (ws : List Written) → addresses_of ws ≡ map pos (number_list ws)
unfolding addresses_of
addresses-are [] = refl
addresses-are (w ∷ ws) = ap (λ (l : List ℤ). pos w.address ∷ l) (addresses-are ws)

-- one address more
all-with : (P : ℕ → Type 0) (n : ℕ) (x : Answer (List ℕ)) (ws : List Written) → P n → All P (number_list ws) → All P (number_list (with_sector n x ws))
unfolding with_sector
all-with P n (Ok d) ws h hs = more h hs
all-with P n (Err r) ws h hs = hs

rises-cons : (n : ℕ) (l : List ℕ) → All (λ (m : ℕ). n < m) l → rising_by below l ≡ true → rising_by below (n ∷ l) ≡ true
unfolding rising_by
rises-cons n [] h r = refl
rises-cons n (m ∷ l) (more h hs) r = and-true _ _ (below_true n m h) r

rises-with : (n : ℕ) (x : Answer (List ℕ)) (ws : List Written) → All (λ (m : ℕ). n < m) (number_list ws) → rising_by below (number_list ws) ≡ true
    → rising_by below (number_list (with_sector n x ws)) ≡ true
unfolding with_sector
rises-with n (Ok d) ws h r = rises-cons n (number_list ws) h r
rises-with n (Err q) ws h r = r

module _ (disc : ℕ → Answer (List ℕ)) where
  all_from : (k n : ℕ) → All (λ (m : ℕ). n ≤ m) (number_list (written_from disc k n))
  unfolding written_from
  all_from zero n = done
  all_from (suc k) n = all-with _ n (disc n) _ (le_refl n) (all_map (λ m h. omega arith) (all_from k (suc n)))

  all-below : (most k n : ℕ) → n + k ≤ most → All (λ (m : ℕ). m < most) (number_list (written_from disc k n))
  unfolding written_from
  all-below most zero n h = done
  all-below most (suc k) n h = all-with _ n (disc n) _ (omega arith) (all-below most k (suc n) (omega arith))

  written-rise : (k n : ℕ) → rising_by below (number_list (written_from disc k n)) ≡ true
  unfolding written_from rising_by
  written-rise zero n = refl
  written-rise (suc k) n = rises-with n (disc n) _ (all_from k (suc n)) (written-rise k (suc n))

-- no sector of a pair is empty
pub pair-some : (child parent : List ℕ) (n : ℕ) (d : List ℕ) → pair_at child parent n ≡ Ok d → d ≢ []
unfolding pair_at read_over disc_over
pair-some child parent n d e =
    ⊎_elim (λ h. ((demand-2-returned child (pos n) d).1 ((demand-2-reading child (pos n) d).0 h)).1) (λ h. ((demand-2-returned parent (pos n) d).1 ((demand-2-reading parent (pos n) d).0 h)).1)
    (over-accepted _ _ d e)

module _ (child parent : List ℕ) where
  some_with : (n : ℕ) (x : Answer (List ℕ)) (ws : List Written) → pair_at child parent n ≡ x → All (λ (d : List ℕ). length d ≢ 0) (sector_list ws)
      → All (λ (d : List ℕ). length d ≢ 0) (sector_list (with_sector n x ws))
  unfolding with_sector
  some_with n (Ok d) ws e h = more (not-empty d (pair-some child parent n d e)) h
  some_with n (Err r) ws e h = h

  all-some : (k n : ℕ) → All (λ (d : List ℕ). length d ≢ 0) (sector_list (written_from (pair_at child parent) k n))
  unfolding written_from
  all-some zero n = done
  all-some (suc k) n = some_with n (pair_at child parent n) _ refl (all-some k (suc n))

-- ---- the checks of a pair's sectors, by the two images' own verdicts
pub verdict-of : {A : Type 0} (v : Verdict) (a : A) → verdict_of (answer v a) ≡ v
unfolding verdict_of answer
verdict-of (Ok tt) a = refl
verdict-of (Err r) a = refl

pair-at : (child parent : List ℕ) (n : ℕ) → verdict_of (pair_at child parent n) ≡ both_by child parent (pos n)
unfolding pair_at
pair-at child parent n = ap (λ (x : Answer (List ℕ)). verdict_of x) (read-over child parent (pos n)) ∙ verdict-of _ _

pub pair-verdict : (child parent : List ℕ) → pair_verdict child parent ≡ first_refusal (λ n. other_than_21 (both_by child parent (pos n))) (count_of child) 0
unfolding pair_verdict
pair-verdict child parent = first_refusal-same _ _ (count_of child) 0 (λ n l h. ap other_than_21 (pair-at child parent n))

-- ---- its own checks
pub record Flattenable (buffer child parent application : List ℕ) : Type 0 where
  pub long : length buffer ≤ longest_buffer
  pub named : length application ≡ application_length
  pub writable : WritableOk child (index_offset child)
  pub sectors : (n : ℕ) → n < count_of child → other_than_21 (verdict_of (pair_at child parent n)) ≡ Ok tt
  pub sized : All (Sized (size_of (written_of child parent))) (sector_list (written_of child parent))
  pub counted : count_of child ≢ 0
  pub most : count_of child ≤ most_sectors
  pub small : size_of (written_of child parent) ≤ largest_size
  pub few : length (written_of child parent) ≤ most_addresses

other-iff : (size : ℕ) (ws : List Written) → (any_other size ws ≡ false) ↔ All (Sized size) (sector_list ws)
unfolding any_other
other-iff size [] = (λ h. done, λ h. refl)
other-iff size (w ∷ ws) =
    let both = or-iff differs-iff (other-iff size ws) in
    (λ h. more (both.0 h).0 (both.0 h).1, λ k. both.1 (all_head k, all_tail k))

pub lent_ok : (buffer application : List ℕ) → (lent_verdict buffer application ≡ Ok tt) ↔ FlattenArguments buffer application
unfolding lent_verdict
lent_ok buffer application = facts (then-iff (row-iff _ below-iff) (row-iff _ differs-iff)) (λ (a, b). record { long = a; named = b }) (λ k. (k.long, k.named))

pub flattenable : (buffer child parent application : List ℕ) → (flatten_verdict buffer child parent application ≡ Ok tt) ↔ Flattenable buffer child parent application
unfolding flatten_verdict pair_verdict sizes_verdict
flattenable buffer child parent application =
    facts
    (then-iff (lent_ok buffer application)
    (then-iff (writable-ok child (index_offset child))
    (then-iff (first_refusal-iff (count_of child) _ 0 (omega arith) (λ n h. Iff.rfl))
    (then-iff (row-iff _ (other-iff _ _)) (row-iff _ (or-iff same-iff (or-iff below-iff (or-iff below-iff below-iff))))))))
    (λ (a, (c, (d, (e, (f, (g, (h, i))))))). record { long = a.long; named = a.named; writable = c; sectors = λ n l. d n (omega arith) l; sized = e; counted = f; most = g; small = h; few = i })
    (λ k. (record { long = k.long; named = k.named }, (k.writable, ((λ n l h. k.sectors n h), (k.sized, (k.counted, (k.most, (k.small, k.few))))))))

-- where there is a sector, what is left is a creation and a commit (Composing)
pub composable : {buffer child parent application : List ℕ} → Flattenable buffer child parent application → (w : Written) (ws : List Written) → written_of child parent ≡ w ∷ ws
    → Composable buffer (count_of child) (number_list (w ∷ ws)) (size_of (w ∷ ws)) (sectors_of (w ∷ ws)) application
unfolding written_of size_of sectors_of
composable {child = child} {parent = parent} k w ws e =
    let sized : All (Sized (size_of (w ∷ ws))) (sector_list (w ∷ ws)) = subst (λ (v : List Written). All (Sized (size_of v)) (sector_list v)) e k.sized in
    let l : length (number_list (w ∷ ws)) ≡ length (sector_list (w ∷ ws)) = length-map (w ∷ ws) _ ∙ sym (length-map (w ∷ ws) _) in
    record {
      long = k.long;
      counted = k.counted;
      most = k.most;
      sized = k.named;
      some = all_head (subst (λ (v : List Written). All (λ (d : List ℕ). length d ≢ 0) (sector_list v)) e (all-some child parent (count_of child) 0));
      small = subst (λ (v : List Written). size_of v ≤ largest_size) e k.small;
      few = omega (arith, length-map (w ∷ ws) (λ (v : Written). v.address), subst (λ (v : List Written). length v ≤ most_addresses) e k.few);
      whole = length-flatten (size_of (w ∷ ws)) (sector_list (w ∷ ws)) sized ∙ ap (λ m. m * size_of (w ∷ ws)) (sym l);
      rises = subst (λ (v : List Written). rising_by below (number_list v) ≡ true) e (written-rise (pair_at child parent) (count_of child) 0);
      inside = subst (λ (v : List Written). All (λ (n : ℕ). n < count_of child) (number_list v)) e (all-below (pair_at child parent) (count_of child) (count_of child) 0 (omega arith));
    }

-- which the commit takes apart into the sectors again
pub pieces_are : (size : ℕ) (ws : List Written) → All (Sized size) (sector_list ws) → pieces (length (number_list ws)) size (sectors_of ws) ≡ sector_list ws
unfolding sectors_of
pieces_are size ws sized =
    let ls : List (List ℕ) = sector_list ws in
    let l : length (number_list ws) ≡ length ls = length-map ws (λ (w : Written). w.address) ∙ sym (length-map ws (λ (w : Written). w.sector)) in
    (λ i. pieces (l i) size (sym (append-nil (list.flatten ls)) i)) ∙ pieces-flatten size ls [] sized

-- ---- the calls
module _ (buffer child parent application : List ℕ) (major minor mediaType creationTime lastWrittenTime : ℕ) where
  abbrev pub count : ℕ
  count = count_of child

  -- what is answered, and left: by the creation, or by it and the commit
  unfoldable pub flat_end : List Written → Placed
  flat_end [] = placed (created_used count) (created_index_at count)
  flat_end (w ∷ ws) =
      placed (composed_used buffer count (number_list (w ∷ ws)) (size_of (w ∷ ws)) (sectors_of (w ∷ ws)) application major minor mediaType creationTime lastWrittenTime)
      (composed_index buffer count (number_list (w ∷ ws)) (size_of (w ∷ ws)) (sectors_of (w ∷ ws)) application major minor mediaType creationTime lastWrittenTime)

  unfoldable pub flat_buffer : List Written → List ℕ
  flat_buffer [] = overwrite buffer 0 (made count application major minor mediaType creationTime lastWrittenTime)
  flat_buffer (w ∷ ws) =
      composed_buffer buffer count (number_list (w ∷ ws)) (size_of (w ∷ ws)) (sectors_of (w ∷ ws)) application major minor mediaType creationTime lastWrittenTime

  -- 35
  abbrev pub room_verdict : List Written → Verdict
  room_verdict ws = row (below (length buffer) (flat_end ws).used) (refusal 35 0)

  abbrev one : Outcome Placed
  one = create buffer count application major minor mediaType creationTime lastWrittenTime

  alone : (v : Verdict) (p : Placed) (new : List ℕ)
      → and_then buffer (outcome buffer v p new).result (λ q. record { result = Ok q; buffer = (outcome buffer v p new).buffer }) ≡ outcome buffer v p new
  unfolding and_then or_leaves outcome
  alone (Ok tt) p new = refl
  alone (Err r) p new = refl

  calls_are : Flattenable buffer child parent application → (ws : List Written) → written_of child parent ≡ ws
      → and_then buffer one.result (λ p. commit_all one.buffer p ws lastWrittenTime) ≡ outcome buffer (room_verdict ws) (flat_end ws) (flat_buffer ws)
  unfolding commit_all create flat_end flat_buffer
  calls_are k [] e =
      let new : List ℕ = made count application major minor mediaType creationTime lastWrittenTime in
      let p : Placed = placed (created_used count) (created_index_at count) in
      alone _ p (overwrite buffer 0 new)
      ∙ ap (λ (v : Verdict). outcome buffer v p (overwrite buffer 0 new)) (create-last buffer count application k.long k.counted k.most k.named)
  calls_are k (w ∷ ws) e =
      ap (λ (l : List ℤ). and_then buffer one.result (λ p. commit one.buffer p.used l (size_of (w ∷ ws)) (sectors_of (w ∷ ws)) lastWrittenTime)) (addresses-are (w ∷ ws))
      ∙ composed-is _ _ _ _ _ _ _ _ _ _ _ (composable k w ws e)

  abbrev pub written : List Written
  written = written_of child parent

  -- the checks, and 35 of the calls
  abbrev pub whole_verdict : Verdict
  whole_verdict = flatten_verdict buffer child parent application then room_verdict written

  -- for every input
  pub flatten-is : flatten buffer child parent application major minor mediaType creationTime lastWrittenTime
      ≡ outcome buffer whole_verdict (flat_end written) (flat_buffer written)
  unfolding flatten
  flatten-is = checked-then buffer _ _ _ _ _ _ (λ e. calls_are ((flattenable buffer child parent application).0 e) written refl)

  -- where its own checks pass it is the creation, or both calls
  flatten-calls : Flattenable buffer child parent application
      → flatten buffer child parent application major minor mediaType creationTime lastWrittenTime ≡ outcome buffer (room_verdict written) (flat_end written) (flat_buffer written)
  flatten-calls k =
      flatten-is ∙ ap (λ (v : Verdict). outcome buffer v (flat_end written) (flat_buffer written)) (then-rest _ _ ((flattenable buffer child parent application).1 k))

  pub flatten-created : Flattenable buffer child parent application → written ≡ []
      → flatten buffer child parent application major minor mediaType creationTime lastWrittenTime ≡ create buffer count application major minor mediaType creationTime lastWrittenTime
  unfolding flat_end flat_buffer create
  flatten-created k e =
      flatten-calls k ∙ ap (λ (ws : List Written). outcome buffer (room_verdict ws) (flat_end ws) (flat_buffer ws)) e
      ∙ ap (λ (v : Verdict). outcome buffer v (placed (created_used count) (created_index_at count)) (overwrite buffer 0 (made count application major minor mediaType creationTime lastWrittenTime)))
      (sym (create-last buffer count application k.long k.counted k.most k.named))

  pub flatten-composed : (k : Flattenable buffer child parent application) (w : Written) (ws : List Written) → written ≡ w ∷ ws
      → flatten buffer child parent application major minor mediaType creationTime lastWrittenTime
      ≡ composed buffer count (number_list (w ∷ ws)) (size_of (w ∷ ws)) (sectors_of (w ∷ ws)) application major minor mediaType creationTime lastWrittenTime
  unfolding flat_end flat_buffer
  flatten-composed k w ws e =
      flatten-calls k ∙ ap (λ (v : List Written). outcome buffer (room_verdict v) (flat_end v) (flat_buffer v)) e ∙ sym (composed-is _ _ _ _ _ _ _ _ _ _ _ (composable k w ws e))

  pub verdict-ok : (whole_verdict ≡ Ok tt) ↔ (Flattenable buffer child parent application × ((flat_end written).used ≤ length buffer))
  verdict-ok = then-iff (flattenable buffer child parent application) (row-iff (refusal 35 0) below-iff)

  -- accepted
  pub record Flattens (p : Placed) (after : List ℕ) : Type 0 where
    pub checked : Flattenable buffer child parent application
    pub room : (flat_end written).used ≤ length buffer
    pub answer : flat_end written ≡ p
    pub buffer-is : after ≡ flat_buffer written

  pub flatten-accepted : (p : Placed) → (flatten buffer child parent application major minor mediaType creationTime lastWrittenTime).result ≡ Ok p
      → Flattens p (flatten buffer child parent application major minor mediaType creationTime lastWrittenTime).buffer
  flatten-accepted p e =
      let r = outcome-accepted _ _ _ _ p (ap (λ (w : Outcome Placed). w.result) (sym flatten-is) ∙ e) in
      let c = verdict-ok.0 r.passes in
      record { checked = c.0; room = c.1; answer = r.answer; buffer-is = ap (λ (w : Outcome Placed). w.buffer) flatten-is ∙ r.buffer }

  -- refused
  pub flatten-refused : (r : Refusal) → (flatten buffer child parent application major minor mediaType creationTime lastWrittenTime).result ≡ Err r
      → (whole_verdict ≡ Err r) × ((flatten buffer child parent application major minor mediaType creationTime lastWrittenTime).buffer ≡ buffer)
  flatten-refused r e =
      let q = outcome-refused _ _ _ _ r (ap (λ (w : Outcome Placed). w.result) (sym flatten-is) ∙ e) in
      (q.0, ap (λ (w : Outcome Placed). w.buffer) flatten-is ∙ q.1)
