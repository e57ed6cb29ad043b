-- Importing: its own checks, and then a creation and one commit (Composing). In one piece: its checks, 35 as the last of them, and what it leaves; the disc
-- afterwards.
use mathlib.Core.Bool.{true}
use mathlib.Core.List.{List, ◌∷◌, map}
use mathlib.Core.Logic.{◌≢◌, ◌⊎◌, ⊎_map, ◌↔◌}
use mathlib.Core.Path.{◌≡◌, refl, sym, ap, ◌∙◌}
use Prim.Native.Nat.{ℕ, zero, suc, ◌*◌, ◌/◌, ◌%◌, ◌≤◌, ◌<◌}
use native.Mathlib.Nat.{zero-add, zero-mul, pos_of_ne-zero, mul-div_cancel, div-add-mod', div-le_of_le-mul, mul_comm}
use native.Mathlib.Omega.{arith}
use lib.ListN.{length, take, get_or, length-map}
use lib.IntN.{ℤ, pos, neg_ℤ, ◌+ℤ◌, +ℤ_idl}
use Rattle.std.specs.Prelude.{Ok, Err}
use Rattle.fields.specs.Bytes.{overwrite}
use Rattle.format.specs.declared.Placed.{Placed}
use Rattle.format.specs.declared.Refusal.{Refusal}
use Rattle.format.specs.Tests.{below}
use Rattle.format.specs.Lists.{IsBytes, of_each}
use Rattle.format.specs.Refusals.{refusal, ◌then◌, Verdict}
use Rattle.format.specs.Layouts.{application_length, index_offset}
use Rattle.format.specs.Opening.{opened, range_of, sector_count}
use Rattle.format.specs.Reading.{read_at, read}
use Rattle.format.specs.Writing.{largest_size, most_addresses, longest_buffer, Outcome, outcome, placed}
use Rattle.format.specs.Creating.{created_used, create}
use Rattle.format.specs.Committing.{rising_by, commit}
use Rattle.format.specs.Importing.{import_verdict, and_then, import}
use Rattle.format.specs.Demands.{ImportedDisc, FlatImporting}
use Rattle.format.proofs.Tests.{on-or-off, below_true, below-iff, same-iff, differs-iff, or-iff, and-true}
use Rattle.format.proofs.Refusals.{row-iff, row-refuses, row-passes, then-iff, then-rest, answer-passes}
use Rattle.format.proofs.Lists.{get_d_map, length-of_each, get_or-of_each, all-of_each}
use Rattle.format.proofs.Checks.{facts, open-ok, first_flat, Sound}
use Rattle.format.proofs.Buffers.{outcome-accepted, outcome-accepts, outcome-refused, outcome-refuses, outcome-new}
use Rattle.format.proofs.Committed.{Committed}
use Rattle.format.proofs.Created.{Started}
use Rattle.format.proofs.Composing.{checked-then, made, Composable, composed_used, composed_index, composed_buffer, composed_image, room_verdict, composed, composed-is, buffer-front, committed, composed-started, composed-count}

-- ---- its own checks
pub record Importable (buffer file : List ℕ) (size : ℕ) (application : List ℕ) : Type 0 where
  pub long : length buffer ≤ longest_buffer
  pub some : size ≢ 0
  pub small : size ≤ largest_size
  pub any : length file ≢ 0
  pub few : length file ≤ most_addresses * size
  pub whole : length file % size ≡ 0
  pub sized : length application ≡ application_length

pub importable : (buffer file : List ℕ) (size : ℕ) (application : List ℕ) → (import_verdict buffer file size application ≡ Ok tt) ↔ Importable buffer file size application
unfolding import_verdict
importable buffer file size application =
    facts
    (then-iff (row-iff _ below-iff)
    (then-iff (row-iff _ (or-iff same-iff (or-iff below-iff (or-iff same-iff below-iff)))) (then-iff (row-iff _ differs-iff) (row-iff _ differs-iff))))
    (λ (a, ((b, (c, (d, e))), (f, g))). record { long = a; some = b; small = c; any = d; few = e; whole = f; sized = g })
    (λ k. (k.long, ((k.some, (k.small, (k.any, k.few))), (k.whole, k.sized))))

-- how many sectors there are
module _ {buffer file : List ℕ} {size : ℕ} {application : List ℕ} (k : Importable buffer file size application) where
  pub file-whole : length file ≡ length file / size * size
  file-whole = omega (arith, div-add-mod' (length file) size, k.whole)

  pub file-some : length file / size ≢ 0
  file-some e = k.any (file-whole ∙ ap (λ n. n * size) e ∙ zero-mul size)

  pub file-few : length file / size ≤ most_addresses
  file-few = div-le_of_le-mul size (rw (mul_comm size most_addresses) k.few)

pub file-count : (file : List ℕ) (size count : ℕ) → size ≢ 0 → length file ≡ count * size → count ≡ length file / size
file-count file size count some h = sym (ap (λ m. m / size) h ∙ mul-div_cancel count (pos_of_ne-zero some))

-- ---- the addresses 0, 1, .., and the numbers of their table entries
abbrev pub numbers_of : ℕ → List ℕ
numbers_of count = of_each (λ n. n) count 0

abbrev pub addresses_of : ℕ → List ℤ
addresses_of count = map pos (numbers_of count)

address-at : (count n : ℕ) → n < count → get_or (addresses_of count) n (pos 0) ≡ pos n
address-at count n h =
    get_d_map pos (numbers_of count) n 0 (pos 0) (rw (length-of_each (λ m. m) count 0) h) ∙ ap pos (get_or-of_each (λ m. m) 0 count 0 n h ∙ zero-add n)

pub addresses-length : (count : ℕ) → length (addresses_of count) ≡ count
addresses-length count = length-map (numbers_of count) pos ∙ length-of_each (λ n. n) count 0

addresses-each : (k i : ℕ) → map pos (of_each (λ n. n) k i) ≡ of_each pos k i
unfolding of_each
addresses-each zero i = refl
addresses-each (suc k) i = ap (λ (l : List ℤ). pos i ∷ l) (addresses-each k (suc i))

numbers-rise : (k i : ℕ) → rising_by below (of_each (λ n. n) k i) ≡ true
unfolding of_each rising_by
numbers-rise zero i = refl
numbers-rise (suc zero) i = refl
numbers-rise (suc (suc k)) i = and-true _ _ (below_true i (suc i) (omega arith)) (numbers-rise (suc k) (suc i))

-- what is left is a creation and a commit (Composing), to all of them
pub composable : {buffer file : List ℕ} {size : ℕ} {application : List ℕ} → Importable buffer file size application
    → Composable buffer (length file / size) (numbers_of (length file / size)) size file application
composable {buffer} {file} {size} k =
    let count : ℕ = length file / size in
    let many : length (numbers_of count) ≡ count = length-of_each (λ n. n) count 0 in
    record {
      long = k.long;
      counted = file-some k;
      most = omega (arith, file-few k);
      sized = k.sized;
      some = k.some;
      small = k.small;
      few = omega (arith, file-few k);
      whole = file-whole k ∙ ap (λ n. n * size) (sym many);
      rises = numbers-rise count 0;
      inside = all-of_each (λ n. n) count 0 (λ a l h. omega arith);
    }

module _ (buffer file : List ℕ) (size : ℕ) (application : List ℕ) (major minor mediaType creationTime lastWrittenTime : ℕ) where
  abbrev pub count : ℕ
  count = length file / size

  abbrev pub imported_used : ℕ
  imported_used = composed_used buffer count (numbers_of count) size file application major minor mediaType creationTime lastWrittenTime

  abbrev pub imported_index : ℕ
  imported_index = composed_index buffer count (numbers_of count) size file application major minor mediaType creationTime lastWrittenTime

  abbrev pub imported_buffer : List ℕ
  imported_buffer = composed_buffer buffer count (numbers_of count) size file application major minor mediaType creationTime lastWrittenTime

  -- the image, whatever the buffer held
  abbrev pub imported_image : List ℕ
  imported_image = composed_image buffer count (numbers_of count) size file application major minor mediaType creationTime lastWrittenTime

  -- the checks, and 35 of the two calls together
  abbrev pub whole_verdict : Verdict
  whole_verdict =
      import_verdict buffer file size application
      then room_verdict buffer count (numbers_of count) size file application major minor mediaType creationTime lastWrittenTime

  -- for every input
  pub import-is : import buffer file size application major minor mediaType creationTime lastWrittenTime
      ≡ outcome buffer whole_verdict (placed imported_used imported_index) imported_buffer
  unfolding import
  import-is =
      checked-then buffer _ _ _ _ _ _
      (λ e.
      let made = create buffer count application major minor mediaType creationTime lastWrittenTime in
      ap (λ (l : List ℤ). and_then buffer made.result (λ p. commit made.buffer p.used l size file lastWrittenTime)) (sym (addresses-each count 0))
      ∙ composed-is _ _ _ _ _ _ _ _ _ _ _ (composable ((importable buffer file size application).0 e)))

  -- where its own checks pass it is the two calls
  pub import-composed : Importable buffer file size application
      → import buffer file size application major minor mediaType creationTime lastWrittenTime
      ≡ composed buffer count (numbers_of count) size file application major minor mediaType creationTime lastWrittenTime
  import-composed k =
      import-is ∙ ap (λ (v : Verdict). outcome buffer v (placed imported_used imported_index) imported_buffer) (then-rest _ _ ((importable buffer file size application).1 k))
      ∙ sym (composed-is _ _ _ _ _ _ _ _ _ _ _ (composable k))

  -- ---- the image stands at the front of the buffer, and of the buffer only the length is looked at
  pub verdict-ok : (whole_verdict ≡ Ok tt) ↔ (Importable buffer file size application × (imported_used ≤ length buffer))
  verdict-ok = then-iff (importable buffer file size application) (row-iff (refusal 35 0) below-iff)

  pub import-front : import buffer file size application major minor mediaType creationTime lastWrittenTime
      ≡ outcome buffer whole_verdict (placed imported_used imported_index) (overwrite buffer 0 imported_image)
  import-front = import-is ∙ outcome-new buffer whole_verdict _ _ _ (λ e. let k = verdict-ok.0 e in buffer-front _ _ _ _ _ _ _ _ _ _ _ (composable k.0) k.1)

  -- ---- accepted
  pub record Imports (p : Placed) (after : List ℕ) : Type 0 where
    pub checked : Importable buffer file size application
    pub room : imported_used ≤ length buffer
    pub answer : placed imported_used imported_index ≡ p
    pub buffer-is : after ≡ imported_buffer

  pub import-accepted : (p : Placed) → (import buffer file size application major minor mediaType creationTime lastWrittenTime).result ≡ Ok p
      → Imports p (import buffer file size application major minor mediaType creationTime lastWrittenTime).buffer
  import-accepted p e =
      let r = outcome-accepted _ _ _ _ p (ap (λ (w : Outcome Placed). w.result) (sym import-is) ∙ e) in
      let c = verdict-ok.0 r.passes in
      record { checked = c.0; room = c.1; answer = r.answer; buffer-is = ap (λ (w : Outcome Placed). w.buffer) import-is ∙ r.buffer }

  -- where its own checks pass it is accepted, or there is no room
  pub import-or-full : Importable buffer file size application
      → ((import buffer file size application major minor mediaType creationTime lastWrittenTime).result ≡ Err (refusal 35 0))
      ⊎ ((import buffer file size application major minor mediaType creationTime lastWrittenTime).result ≡ Ok (placed imported_used imported_index))
  import-or-full k =
      let r = ap (λ (w : Outcome Placed). w.result) import-is in
      let v = then-rest _ _ ((importable buffer file size application).1 k) in
      ⊎_map (λ e. r ∙ (outcome-refuses _ _ _ _ _).1 (v ∙ row-refuses _ (refusal 35 0) e)) (λ e. r ∙ (outcome-accepts _ _ _ _ _).1 (v ∙ row-passes _ (refusal 35 0) e, refl))
      (on-or-off (below (length buffer) imported_used))

  -- ---- refused
  pub import-refused : (r : Refusal) → (import buffer file size application major minor mediaType creationTime lastWrittenTime).result ≡ Err r
      → (whole_verdict ≡ Err r)
      × ((import buffer file size application major minor mediaType creationTime lastWrittenTime).buffer ≡ buffer)
  import-refused r e =
      let q = outcome-refused _ _ _ _ r (ap (λ (w : Outcome Placed). w.result) (sym import-is) ∙ e) in
      (q.0, ap (λ (w : Outcome Placed). w.buffer) import-is ∙ q.1)

  -- the disc that it leaves
  module _ (bb : IsBytes buffer) (ba : IsBytes application) (p : Placed) (after : List ℕ) (i : Imports p after) where
    abbrev y : List ℕ
    y = take p.used after

    commit-done : Committed (overwrite buffer 0 (made count application major minor mediaType creationTime lastWrittenTime)) (created_used count) (addresses_of count) size file p after
    commit-done = rw (i.buffer-is, ← i.answer) (committed _ _ _ _ _ _ _ _ _ _ _ (composable i.checked) bb ba i.room)

    disc-started : IsBytes file → Started p after
    disc-started bf = rw (i.buffer-is, ← i.answer) (composed-started _ _ _ _ _ _ _ _ _ _ _ (composable i.checked) bb ba i.room bf)

    count-is : (opened y (index_offset y)).count ≡ count
    count-is =
        ap (λ n. (opened y n).count) commit-done.offset
        ∙ (rw (i.buffer-is, ← i.answer) (composed-count _ _ _ _ _ _ _ _ _ _ _ (composable i.checked) bb ba i.room))

    disc-imported : ImportedDisc file size y
    unfolding sector_count range_of read
    disc-imported =
        let c = commit-done in
        let s : Sound y (index_offset y) = rw c.offset c.sound in
        let low : (opened y (index_offset y)).negative ≡ 0 = (first_flat y (index_offset y) s.first).0 in
        record {
          flat = record {
            range = record { count = count; lowest = record { 0 = pos 0 } };
            sectors = answer-passes _ _ ((open-ok y (index_offset y)).1 s.opens) ∙ (λ j. Ok (record { count = count-is j; lowest = record { 0 = neg_ℤ (pos (low j)) } }));
            whole = file-whole i.checked;
            each = λ n h.
                ap (λ m. read_at y m (pos 0 +ℤ pos n)) c.offset
                ∙ ap (read_at y p.index.0) (+ℤ_idl (pos n) ∙ sym (address-at count n h))
                ∙ c.reads.named n (rw (addresses-length count) h);
          };
          lowest = refl;
        }

pub verdict-alike : (one other file : List ℕ) (size : ℕ) (application : List ℕ) (major minor mediaType creationTime lastWrittenTime : ℕ) → length one ≡ length other
    → whole_verdict one file size application major minor mediaType creationTime lastWrittenTime ≡ whole_verdict other file size application major minor mediaType creationTime lastWrittenTime
unfolding import_verdict
verdict-alike one other file size application major minor mediaType creationTime lastWrittenTime e = rw e refl

pub import-started : (buffer : List ℕ) → IsBytes buffer → (file : List ℕ) (size : ℕ) (application : List ℕ) → IsBytes application
    → (major minor mediaType creationTime lastWrittenTime : ℕ) (p : Placed) → (import buffer file size application major minor mediaType creationTime lastWrittenTime).result ≡ Ok p
    → IsBytes file → Started p (import buffer file size application major minor mediaType creationTime lastWrittenTime).buffer
import-started buffer bb file size application ba major minor mediaType creationTime lastWrittenTime p e =
    disc-started buffer file size application major minor mediaType creationTime lastWrittenTime bb ba p _ (import-accepted buffer file size application major minor mediaType creationTime lastWrittenTime p e)

pub flat-importing : FlatImporting
flat-importing buffer bb file size application ba major minor mediaType creationTime lastWrittenTime p e =
    disc-imported buffer file size application major minor mediaType creationTime lastWrittenTime bb ba p _ (import-accepted buffer file size application major minor mediaType creationTime lastWrittenTime p e)
