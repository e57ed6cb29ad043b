-- A creation and one commit to what it leaves, as one call: what an import and a flattening are. `sectors`, each of `size` bytes, go to rising addresses below
-- `count`, which are the numbers of their table entries. In one piece: 35 as the only check left, and what the two calls leave; the disc afterwards.
use mathlib.Core.Bool.{true, false}
use mathlib.Core.List.{List, [], ◌∷◌, ◌++◌, map}
use mathlib.Core.Logic.{◌≢◌, ⊎_elim}
use mathlib.Core.Option.{none}
use mathlib.Core.Path.{◌≡◌, refl, sym, ap, ◌∙◌, subst}
use Prim.Native.Nat.{ℕ, ◌+◌, ◌*◌, ◌≤◌, ◌<◌}
use native.Mathlib.Nat.{zero-add}
use native.Mathlib.Omega.{arith}
use lib.ListN.{length, take, get_or, length-append, length-map}
use lib.IntN.{ℤ, pos, +ℤ_idr}
use Rattle.std.specs.Prelude.{Ok, Err}
use Rattle.fields.specs.Bytes.{part, overwrite}
use Rattle.fields.proofs.Overwrite.{length-overwrite, overwrite-then, part_same}
use Rattle.fields.proofs.Holds.{Holds}
use Rattle.format.specs.declared.Placed.{Placed}
use Rattle.format.specs.Tests.{below, less_than, ◌and◌}
use Rattle.format.specs.Lists.{All, done, more, IsBytes}
use Rattle.format.specs.Refusals.{refusal, row, ◌then◌, answer, Verdict}
use Rattle.format.specs.Layouts.{header_length, application_length, index_offset, entries}
use Rattle.format.specs.Opening.{Opened, opened}
use Rattle.format.specs.Reading.{displaced, outside, entry_number, read_at, read}
use Rattle.format.specs.Writing.{most_sectors, largest_size, most_addresses, longest_buffer, Outcome, outcome, placed, set_header}
use Rattle.format.specs.Creating.{created_index_at, created_used, created_entries, created_bytes, create_verdict, create}
use Rattle.format.specs.Committing.{rising_by, rising, any_outside, entry_numbers, old_pointer, Appended, appended, appended_bytes, index_start, table_start, used_after, commit_verdict, append, commit}
use Rattle.format.specs.Importing.{or_leaves, and_then}
use Rattle.format.specs.Demands.{Held, FreshDisc}
use Rattle.format.specs.Facts.{ArgumentsOk}
use Rattle.format.proofs.Tests.{never, on-or-off, below_on, below_true, below-iff, same-iff, differs-iff, or-iff, choose-true}
use Rattle.format.proofs.Refusals.{row-iff, row-refuses, then-rest, answer-accepted}
use Rattle.format.proofs.Lists.{all-mapped}
use Rattle.format.proofs.Numbers.{Numbered, inside-number, number-inside, number_is}
use Rattle.format.proofs.Addresses.{each-inside}
use Rattle.format.proofs.Checks.{read_ok, rising-iff, create-ok, created-used, arguments-ok, disc-ok, Sound, DiscSound}
use Rattle.format.proofs.Buffers.{outcome-passes, length-set_header, set_header-inside}
use Rattle.format.proofs.Bytes.{bytes-overwrite, bytes-created}
use Rattle.format.proofs.Appended.{appended-total}
use Rattle.format.proofs.Committed.{Committed, commit-accepted}
use Rattle.format.proofs.Written.{opened_first}
use Rattle.format.proofs.Created.{Started, length-new, created-offset, created-opened, nothing_written, created-entries, created-sound, fresh}

-- ---- addresses that are the numbers of their table entries
rises-alike : (l : List ℕ) → rising (map pos l) ≡ rising_by below l
unfolding rising_by less_than below
rises-alike [] = refl
rises-alike (a ∷ []) = refl
rises-alike (a ∷ b ∷ l) = ap (λ r. below a b and r) (rises-alike (b ∷ l))

module _ (t : Opened) (flat : t.negative ≡ 0) where
  pub numbered : (n : ℕ) → n < t.count → Numbered t (pos n) n
  unfolding displaced
  numbered n h = record { is = rw flat (+ℤ_idr (pos n)); inside = h }

  each-numbered : (l : List ℕ) → All (λ (n : ℕ). n < t.count) l → All (λ (a : ℤ). outside t a ≡ false) (map pos l)
  each-numbered l = all-mapped pos (λ n h. number-inside t (pos n) n (numbered n h))

  numbers-are : (l : List ℕ) → All (λ (n : ℕ). n < t.count) l → entry_numbers t (map pos l) ≡ l
  unfolding entry_numbers
  numbers-are _ done = refl
  numbers-are _ (more {a = n} {l = l} h hs) =
      let e : entry_number t (pos n) ≡ n = number_is t (pos n) n (numbered n h) in
      let es : entry_numbers t (map pos l) ≡ l = numbers-are l hs in
      λ j. e j ∷ es j

-- ---- calls one after another
-- a call whose refusal leaves another buffer
leaves-outcome : (buffer other : List ℕ) (v : Verdict) (p : Placed) (new : List ℕ) → or_leaves buffer (outcome other v p new).result (outcome other v p new).buffer ≡ outcome buffer v p new
unfolding or_leaves outcome
leaves-outcome buffer other (Ok tt) p new = refl
leaves-outcome buffer other (Err r) p new = refl

-- the next one, which is made where the checks before it pass
pub checked-then : {A : Type 0} (buffer : List ℕ) (v w : Verdict) (a : A) (call : A → Outcome Placed) (p : Placed) (new : List ℕ) → (v ≡ Ok tt → call a ≡ outcome buffer w p new)
    → and_then buffer (answer v a) call ≡ outcome buffer (v then w) p new
unfolding and_then answer ◌then◌ outcome
checked-then buffer (Ok tt) w a call p new h =
    ap (λ (o : Outcome Placed). or_leaves buffer o.result o.buffer) (h refl) ∙ leaves-outcome buffer buffer w p new
checked-then buffer (Err r) w a call p new h = refl

-- ---- the new image
-- of a creation's checks 35 is the last
pub create-last : (buffer : List ℕ) (count : ℕ) (application : List ℕ) → length buffer ≤ longest_buffer → count ≢ 0 → count ≤ most_sectors
    → length application ≡ application_length → create_verdict buffer count application ≡ row (below (length buffer) (created_used count)) (refusal 35 0)
unfolding create_verdict
create-last buffer count application long some few sized =
    then-rest _ _ ((row-iff (refusal 31 0) below-iff).1 long) ∙ then-rest _ _ ((row-iff (refusal 30 0) (or-iff same-iff below-iff)).1 (some, few))
    ∙ then-rest _ _ ((row-iff (refusal 33 0) differs-iff).1 sized)

module _ (count : ℕ) (application : List ℕ) (major minor mediaType creationTime lastWrittenTime : ℕ) where
  abbrev pub made : List ℕ
  made = created_bytes count application major minor mediaType creationTime lastWrittenTime

  module _ (sized : length application ≡ application_length) (most : count ≤ most_sectors) where
    h : Holds made 0 made
    h = record { fits = omega arith; there = λ i l. ap (λ n. get_or made n 0) (zero-add i) }

    -- it stands at the front of the buffer in which it is made
    pub made-front : (buffer : List ℕ) → created_used count ≤ length buffer → take (created_used count) (overwrite buffer 0 made) ≡ made
    unfolding part
    made-front buffer room =
        part_same buffer 0 (created_used count) made (length-new count application major minor mediaType creationTime lastWrittenTime sized) (omega arith)

    pub made-offset : index_offset made ≡ created_index_at count
    made-offset = created-offset count application major minor mediaType creationTime lastWrittenTime sized made h most

    pub made-sound : Sound made (created_index_at count)
    made-sound = created-sound count application major minor mediaType creationTime lastWrittenTime sized made h most

    pub made-opened : opened made (created_index_at count) ≡ opened_first header_length count 0
    made-opened = created-opened count application major minor mediaType creationTime lastWrittenTime sized made h most

    pub made-entries : entries made (created_index_at count) ≡ created_entries
    made-entries = created-entries count application major minor mediaType creationTime lastWrittenTime sized made h most

    -- it reads as a new disc
    pub made-fresh : FreshDisc made count
    made-fresh = fresh count application major minor mediaType creationTime lastWrittenTime sized made h most

    -- no sector of it is written
    pub made-unwritten : (a : ℕ) → a < count → old_pointer made (opened made (created_index_at count)) a ≡ none
    unfolding old_pointer
    made-unwritten a l =
        rw made-opened
        (choose-true _ _ _ (nothing_written count application major minor mediaType creationTime lastWrittenTime sized made h most a l))

    pub made-empty : (d : List ℕ) → ¬ Held made d
    unfolding read read_at
    made-empty d held =
        let v = (read_ok made (index_offset made) held.address).0 (answer-accepted _ _ d held.reads).0 in
        let m = inside-number (opened made (index_offset made)) held.address v.inside in
        let is : opened made (index_offset made) ≡ opened_first header_length count 0 = ap (opened made) made-offset ∙ made-opened in
        never
        (rw is (nothing_written count application major minor mediaType creationTime lastWrittenTime sized made h most _ (rw is at m.inside)))
        v.sector.written

    -- its addresses
    module _ {numbers : List ℕ} (inside : All (λ (n : ℕ). n < count) numbers) where
      made_inside : any_outside (opened made (created_index_at count)) (map pos numbers) ≡ false
      made_inside = each-inside _ (map pos numbers) (each-numbered _ (rw made-opened refl) numbers (rw made-opened inside))

      pub made-numbers : entry_numbers (opened made (created_index_at count)) (map pos numbers) ≡ numbers
      made-numbers = numbers-are _ (rw made-opened refl) numbers (rw made-opened inside)

-- ---- the two calls
-- all that is checked but 35
pub record Composable (buffer : List ℕ) (count : ℕ) (numbers : List ℕ) (size : ℕ) (sectors application : List ℕ) : Type 0 where
  pub long : length buffer ≤ longest_buffer
  pub counted : count ≢ 0
  pub most : count ≤ most_sectors
  pub sized : length application ≡ application_length
  pub some : size ≢ 0
  pub small : size ≤ largest_size
  pub few : length numbers ≤ most_addresses
  pub whole : length sectors ≡ length numbers * size
  pub rises : rising_by below numbers ≡ true
  pub inside : All (λ (n : ℕ). n < count) numbers

module _ (buffer : List ℕ) (count : ℕ) (numbers : List ℕ) (size : ℕ) (sectors application : List ℕ) (major minor mediaType creationTime lastWrittenTime : ℕ) where
  abbrev new : List ℕ
  new = made count application major minor mediaType creationTime lastWrittenTime

  -- what the commit appends to it
  abbrev pub added : Appended
  added = appended new (created_index_at count) numbers size sectors

  abbrev pub composed_used : ℕ
  composed_used = used_after (created_used count) added

  abbrev pub composed_index : ℕ
  composed_index = index_start (created_used count) added

  abbrev pub composed_buffer : List ℕ
  composed_buffer = set_header (overwrite (overwrite buffer 0 new) (created_used count) (appended_bytes added)) composed_index lastWrittenTime

  -- the image, whatever the buffer held
  abbrev pub composed_image : List ℕ
  composed_image = set_header (new ++ appended_bytes added) composed_index lastWrittenTime

  -- 35 of the two calls together
  abbrev pub room_verdict : Verdict
  room_verdict = row (below (length buffer) composed_used) (refusal 35 0)

  abbrev one : Outcome Placed
  one = create buffer count application major minor mediaType creationTime lastWrittenTime

  abbrev pub composed : Outcome Placed
  composed = and_then buffer one.result (λ p. commit one.buffer p.used (map pos numbers) size sectors lastWrittenTime)

  pub composed-past : created_used count ≤ composed_used
  unfolding used_after index_start table_start
  composed-past = omega arith

  module _ (k : Composable buffer count numbers size sectors application) where
    created-length : length new ≡ created_used count
    created-length = length-new count application major minor mediaType creationTime lastWrittenTime k.sized

    both-length : length (new ++ appended_bytes added) ≡ composed_used
    both-length = length-append new (appended_bytes added) ∙ ap (λ n. n + length (appended_bytes added)) created-length ∙ appended-total (created_used count) added

    pub image-length : length composed_image ≡ composed_used
    image-length = length-set_header (new ++ appended_bytes added) composed_index lastWrittenTime ∙ both-length

    -- it stands at the front
    pub buffer-front : composed_used ≤ length buffer → composed_buffer ≡ overwrite buffer 0 composed_image
    unfolding created_used created_index_at
    buffer-front room =
        let e : created_used count ≡ 0 + length new = omega (arith, created-length) in
        ap (λ (b : List ℕ). set_header b composed_index lastWrittenTime)
        (ap (λ n. overwrite (overwrite buffer 0 new) n (appended_bytes added)) e ∙ overwrite-then buffer 0 new (appended_bytes added))
        ∙ set_header-inside buffer (new ++ appended_bytes added) composed_index lastWrittenTime (omega (arith, both-length, composed-past)) (omega (arith, both-length))

    -- a header stands there before the fields of it are set
    pub made-long : composed_used ≤ length buffer → header_length ≤ length (overwrite (overwrite buffer 0 new) (created_used count) (appended_bytes added))
    unfolding created_used created_index_at
    made-long room = omega (arith, composed-past, length-overwrite (overwrite buffer 0 new) (created_used count) (appended_bytes added), length-overwrite buffer 0 new)

    offset-is : index_offset new ≡ created_index_at count
    offset-is = made-offset count application major minor mediaType creationTime lastWrittenTime k.sized k.most

    -- there is room for the new image
    module _ (room : created_used count ≤ length buffer) where
      abbrev begun : List ℕ
      begun = overwrite buffer 0 new

      length-begun : length begun ≡ length buffer
      length-begun = length-overwrite buffer 0 new

      one-is : one ≡ record { result = Ok (placed (created_used count) (created_index_at count)); buffer = begun }
      unfolding create
      one-is =
          outcome-passes buffer _ _ _
          ((create-ok buffer count application).1
          (record { long = k.long; some = k.counted; few = k.most; sized = k.sized; room = rw (← created-used count) room }))

      -- it stands in front
      pub image-is : take (created_used count) (overwrite buffer 0 new) ≡ new
      image-is = made-front count application major minor mediaType creationTime lastWrittenTime k.sized k.most buffer room

      arguments : ArgumentsOk begun (created_used count) (map pos numbers) size sectors
      arguments =
          let ln : length (map pos numbers) ≡ length numbers = length-map numbers pos in
          record {
            buffer_ok = record { long = omega (arith, length-begun, k.long); inside = omega (arith, length-begun) };
            some = k.some;
            small = k.small;
            few = omega (arith, k.few);
            whole = k.whole ∙ ap (λ n. n * size) (sym ln);
            rises = (rising-iff (map pos numbers)).0 (rises-alike numbers ∙ k.rises);
          }

      disc : DiscSound new (created_index_at count) (map pos numbers)
      disc =
          record {
            sound = made-sound count application major minor mediaType creationTime lastWrittenTime k.sized k.most;
            inside = made_inside count application major minor mediaType creationTime lastWrittenTime k.sized k.most k.inside;
          }

      -- the commit's checks, but for 35
      two-verdict : commit_verdict begun (created_used count) (map pos numbers) size sectors added ≡ room_verdict
      unfolding commit_verdict
      two-verdict =
          then-rest _ _ ((arguments-ok begun (created_used count) (map pos numbers) size sectors).1 arguments)
          ∙ then-rest _ _ (rw (image-is, offset-is) ((disc-ok new (created_index_at count) (map pos numbers)).1 disc))
          ∙ ap (λ n. row (below n composed_used) (refusal 35 0)) length-begun

      two_is : commit begun (created_used count) (map pos numbers) size sectors lastWrittenTime ≡ outcome begun room_verdict (placed composed_used composed_index) composed_buffer
      unfolding commit append
      two_is = rw (image-is, offset-is, made-numbers count application major minor mediaType creationTime lastWrittenTime k.sized k.most k.inside, two-verdict) refl

      fits-is : composed ≡ outcome buffer room_verdict (placed composed_used composed_index) composed_buffer
      unfolding and_then
      fits-is =
          ap (λ (w : Outcome Placed). and_then buffer w.result (λ p. commit w.buffer p.used (map pos numbers) size sectors lastWrittenTime)) one-is
          ∙ ap (λ (w : Outcome Placed). or_leaves buffer w.result w.buffer) two_is ∙ leaves-outcome buffer begun room_verdict _ _

    -- there is none
    full_is : length buffer < created_used count → composed ≡ outcome buffer room_verdict (placed composed_used composed_index) composed_buffer
    unfolding and_then create outcome
    full_is f =
        let v : create_verdict buffer count application ≡ Err (refusal 35 0) =
        create-last buffer count application k.long k.counted k.most k.sized ∙ row-refuses _ _ (below_true _ _ f) in
        let w : room_verdict ≡ Err (refusal 35 0) = row-refuses _ _ (below_true _ _ (omega (arith, composed-past))) in
        rw (v, w) refl

    pub composed-is : composed ≡ outcome buffer room_verdict (placed composed_used composed_index) composed_buffer
    composed-is = ⊎_elim (λ e. full_is (below_on _ _ e)) (λ e. fits-is (below-iff.0 e)) (on-or-off (below (length buffer) (created_used count)))

    -- ---- and the disc that it leaves, where it is accepted
    module _ (bb : IsBytes buffer) (ba : IsBytes application) (fits : composed_used ≤ length buffer) where
      pub committed : Committed (overwrite buffer 0 new) (created_used count) (map pos numbers) size sectors (placed composed_used composed_index) composed_buffer
      committed =
          let room : created_used count ≤ length buffer = omega (arith, composed-past) in
          let e : commit (overwrite buffer 0 new) (created_used count) (map pos numbers) size sectors lastWrittenTime ≡ record { result = Ok (placed composed_used composed_index); buffer = composed_buffer } =
          two_is room ∙ outcome-passes (overwrite buffer 0 new) _ _ _ ((row-iff (refusal 35 0) below-iff).1 fits) in
          subst (Committed (overwrite buffer 0 new) (created_used count) (map pos numbers) size sectors (placed composed_used composed_index)) (ap (λ (w : Outcome Placed). w.buffer) e)
          (commit-accepted (overwrite buffer 0 new)
          (bytes-overwrite buffer 0 new (omega (arith, created-length)) bb (bytes-created count application ba major minor mediaType creationTime lastWrittenTime))
          (created_used count) (map pos numbers) size sectors lastWrittenTime _ (ap (λ (w : Outcome Placed). w.result) e))

      pub composed-started : IsBytes sectors → Started (placed composed_used composed_index) composed_buffer
      composed-started bs =
          record {
            long = omega (arith, committed.same_length, length-overwrite buffer 0 new, k.long);
            inside = committed.inside;
            offset = committed.offset;
            sound = committed.sound;
            bytes = committed.bytes bs;
          }

      pub composed-count : (opened (take composed_used composed_buffer) composed_index).count ≡ count
      composed-count =
          let room : created_used count ≤ length buffer = omega (arith, composed-past) in
          committed.count ∙ (rw (image-is room, offset-is, made-opened count application major minor mediaType creationTime lastWrittenTime k.sized k.most) refl)
