-- An accepted commit: the disc afterwards is sound, keeps the old image's bytes, and reads as handed in, or as before.
use mathlib.Core.Bool.{false}
use mathlib.Core.List.{List, [], ◌++◌}
use mathlib.Core.Logic.{⊎_elim}
use mathlib.Core.Option.{Option}
use mathlib.Core.Path.{◌≡◌, sym, ap, ◌∙◌, subst}
use Prim.Native.Nat.{ℕ, ◌+◌, ◌≤◌, ◌<◌}
use native.Mathlib.Omega.{arith}
use lib.ListN.{length, take, get_or, length-take}
use lib.IntN.{ℤ, pos}
use lib.Seq.{length-take-le}
use Rattle.std.specs.Prelude.{Ok}
use Rattle.fields.specs.Bytes.{overwrite}
use Rattle.fields.proofs.Overwrite.{length-overwrite}
use Rattle.fields.proofs.Holds.{Holds}
use Rattle.format.specs.declared.Entry.{Entry}
use Rattle.format.specs.declared.Placed.{Placed}
use Rattle.format.specs.Lists.{IsBytes}
use Rattle.format.specs.Layouts.{header_length, index_offset, entries}
use Rattle.format.specs.Opening.{opened}
use Rattle.format.specs.Reading.{outside, entry_number, read_at, read}
use Rattle.format.specs.Writing.{longest_buffer, placed, set_header}
use Rattle.format.specs.Committing.{entry_numbers, pieces, given, stored_for, kept_entries, new_block, new_block_entry, Appended, appended, table_start, index_start, used_after, appended_bytes, append, commit}
use Rattle.format.specs.Demands.{Additions, new_entries, ReadsCommitted, Demand2Committing}
use Rattle.format.specs.Facts.{ArgumentsOk}
use Rattle.format.proofs.Tests.{on-or-off}
use Rattle.format.proofs.Lists.{all_take, all-get}
use Rattle.format.proofs.Checks.{rising-iff, commit-ok, Sound, DiscSound, entry_read, read-20, read-inside, first_flat}
use Rattle.format.proofs.Numbers.{inside-number, outside-alike, number-alike}
use Rattle.format.proofs.Agree.{Agree}
use Rattle.format.proofs.Bytes.{bytes-overwrite, bytes-appended}
use Rattle.format.proofs.Addresses.{given-named, given-other, inside-each, numbers-rise, numbers-other, number_at, length-numbers}
use Rattle.format.proofs.Storing.{handed_or, get_or-pieces, length-pieces}
use Rattle.format.proofs.Appended.{appended-total, NewDisc, new-disc}
use Rattle.format.proofs.Ends.{additions, entries-are}
use Rattle.format.proofs.Buffers.{outcome-accepted, agree-append, holds-appended, index_offset-set, length-appended, bytes-set_header}

-- an accepted commit that answered p and left `after`
pub record Committed (buffer : List ℕ) (used : ℕ) (addresses : List ℤ) (size : ℕ) (sectors : List ℕ) (p : Placed) (after : List ℕ) : Type 0 where
  pub agree : Agree (take used buffer) (take p.used after)
  pub past : used ≤ p.index.0
  pub offset : index_offset (take p.used after) ≡ p.index.0
  pub sound : Sound (take p.used after) p.index.0
  pub count : (opened (take p.used after) p.index.0).count ≡ (opened (take used buffer) (index_offset (take used buffer))).count
  pub reads : ReadsCommitted (read (take used buffer)) (read_at (take p.used after) p.index.0) addresses size sectors
  pub additions : Additions (take used buffer) used size (pieces (length addresses) size sectors)
  pub index : entries (take p.used after) p.index.0 ≡ new_entries additions
  pub same_length : length after ≡ length buffer
  pub inside : p.used ≤ length after
  pub bytes : IsBytes sectors → IsBytes after

module _ (buffer : List ℕ) (is_bytes : IsBytes buffer) (used : ℕ) (addresses : List ℤ) (size : ℕ) (sectors : List ℕ) (time : ℕ)
    (k : ArgumentsOk buffer used addresses size sectors) (d : DiscSound (take used buffer) (index_offset (take used buffer)) addresses)
    (room : let img = take used buffer in let o = index_offset img in
    used_after used (appended img o (entry_numbers (opened img o) addresses) size sectors) ≤ length buffer) where
  abbrev x : List ℕ
  x = take used buffer

  abbrev o : ℕ
  o = index_offset x

  -- by the numbers of their table entries
  abbrev numbers : List ℕ
  numbers = entry_numbers (opened x o) addresses

  abbrev new : Appended
  new = appended x o numbers size sectors

  abbrev run : List ℕ
  run = appended_bytes new

  abbrev ds : List (List ℕ)
  ds = pieces (length numbers) size sectors

  -- the entries of its index
  abbrev written : List Entry
  written =
      let items = (stored_for x o numbers size sectors).items in
      kept_entries (table_start (length x) (new_block size items)) (entries x o) ++ new_block_entry (length x) items

  abbrev after : List ℕ
  after = set_header (overwrite buffer used run) (index_start used new) time

  abbrev y : List ℕ
  y = take (used + length run) after

  s : Sound x o
  s = d.sound

  length-x : length x ≡ used
  length-x = length-take-le used buffer k.buffer_ok.inside

  low : header_length ≤ used
  low = omega (arith, length-x, s.opens.header.long)

  total : used + length run ≡ used_after used new
  total = appended-total used new

  fits : used + length run ≤ length buffer
  fits = omega (arith, total, room)

  agrees : Agree x y
  agrees = agree-append buffer used run (index_start used new) time fits

  holds : Holds y (length x) run
  holds = rw length-x (holds-appended buffer used run (index_start used new) time fits low)

  length-after : length after ≡ length buffer
  length-after = length-appended buffer used run (index_start used new) time

  y-long : length y ≤ longest_buffer
  y-long = simp length-take (omega (arith, length-after, k.buffer_ok.long))

  many : length numbers ≡ length addresses
  many = length-numbers (opened x o) addresses

  disc : NewDisc x o numbers ds y (index_start used new) written
  disc =
      subst (λ n. NewDisc x o numbers ds y (index_start n new) written) length-x
      (new-disc x o numbers size sectors y agrees s (all_take buffer is_bytes used) k.some k.small (rw many k.whole) holds y-long)

  -- ---- the addresses: the lowest is 0 before and after
  lowest : (opened x o).negative ≡ 0
  lowest = (first_flat x o s.first).0

  abbrev i : ℕ
  i = index_start used new

  module _ (a : ℤ) where
    low-y : (opened y i).negative ≡ (opened x o).negative
    low-y = (first_flat y i disc.sound.first).0 ∙ sym lowest

    outside-y : outside (opened y i) a ≡ outside (opened x o) a
    outside-y = outside-alike _ _ low-y disc.count a

    reads-inside : outside (opened x o) a ≡ false → read_at y i a ≡ handed_or (given numbers ds (entry_number (opened x o) a)) (read_at x o a)
    reads-inside h =
        read-inside y i disc.sound.opens a (outside-y ∙ h)
        ∙ ap (entry_read y i) (number-alike _ _ low-y disc.count a)
        ∙ disc.reads (entry_number (opened x o) a) (inside-number (opened x o) a h).inside
        ∙ ap (handed_or (given numbers ds (entry_number (opened x o) a))) (sym (read-inside x o s.opens a h))

  reads_y : ReadsCommitted (read_at x o) (read_at y i) addresses size sectors
  unfolding handed_or
  reads_y =
      let ld : length ds ≡ length numbers = length-pieces (length numbers) size sectors in
      let rise = numbers-rise (opened x o) lowest addresses d.inside ((rising-iff addresses).1 k.rises) in
      record {
        named = λ j h.
            let a : ℤ = get_or addresses j (pos 0) in
            let f = all-get (pos 0) (inside-each (opened x o) addresses d.inside) j h in
            let l : j < length numbers = omega (arith, many) in
            reads-inside a f
            ∙ ap (λ (v : Option (List ℕ)). handed_or v (read_at x o a))
            (ap (given numbers ds) (sym (number_at (opened x o) addresses j h)) ∙ given-named [] numbers ds j rise l (omega arith))
            ∙ ap Ok (get_or-pieces (length numbers) size sectors j l);
        others = λ a h.
            ⊎_elim
            (λ e. read-20 y i disc.sound.opens a (outside-y a ∙ e) ∙ sym (read-20 x o s.opens a e))
            (λ e.
            reads-inside a e
            ∙ ap (λ (v : Option (List ℕ)). handed_or v (read_at x o a)) (given-other _ numbers ds (numbers-other (opened x o) lowest a e addresses d.inside h)))
            (on-or-off (outside (opened x o) a));
      }

  committed : Committed buffer used addresses size sectors (placed (used_after used new) (index_start used new)) after
  unfolding read used_after index_start table_start
  committed =
      let y-is : take (used_after used new) after ≡ y = ap (λ n. take n after) (sym total) in
      let r : index_start used new + length new.index ≤ length buffer = room in
      let lo : length (overwrite buffer used run) ≡ length buffer = length-overwrite buffer used run in
      record {
        agree = rw y-is agrees;
        past = omega arith;
        offset = index_offset-set (overwrite buffer used run) (used_after used new) (index_start used new) time (omega (arith, low)) (omega arith) (omega (arith, k.buffer_ok.long));
        sound = rw y-is disc.sound;
        count = rw y-is disc.count;
        reads = rw y-is reads_y;
        additions = additions x s used length-x addresses size sectors k.whole;
        index = rw y-is (disc.index ∙ entries-are x s used length-x addresses size sectors k.whole);
        same_length = length-after;
        inside = omega (arith, room, length-after);
        bytes = λ h.
            bytes-set_header (overwrite buffer used run) (index_start used new) time (omega (arith, low))
            (bytes-overwrite buffer used run fits is_bytes (bytes-appended x o numbers size sectors h));
      }

pub commit-accepted : (buffer : List ℕ) → IsBytes buffer → (used : ℕ) (addresses : List ℤ) (size : ℕ) (sectors : List ℕ) (time : ℕ) (p : Placed)
    → (commit buffer used addresses size sectors time).result ≡ Ok p
    → Committed buffer used addresses size sectors p (commit buffer used addresses size sectors time).buffer
unfolding commit append
commit-accepted buffer b used addresses size sectors time p e =
    let r = outcome-accepted _ _ _ _ p e in
    let k = (commit-ok buffer used addresses size sectors _).0 r.passes in
    rw (r.buffer, ← r.answer) (committed buffer b used addresses size sectors time k.arguments k.disc k.room)

-- ---- demand 2, committing
pub demand-2-committing : Demand2Committing
unfolding read
demand-2-committing buffer b used addresses size sectors time p e =
    let after : List ℕ = (commit buffer used addresses size sectors time).buffer in
    let c = commit-accepted buffer b used addresses size sectors time p e in
    record {
      disc = subst (λ n. ReadsCommitted (read (take used buffer)) (read_at (take p.used after) n) addresses size sectors) (sym c.offset) c.reads;
      additions = c.additions;
      index = c.index;
    }
