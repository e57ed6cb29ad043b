-- An accepted creation: the disc is sound, and no sector of it is written.
use mathlib.Core.Bool.{true}
use mathlib.Core.List.{List, [], ◌∷◌, ◌++◌}
use mathlib.Core.Logic.{inl}
use mathlib.Core.Path.{◌≡◌, refl, ap, ◌∙◌, subst}
use Prim.Native.Nat.{ℕ, ◌+◌, ◌*◌, ◌≤◌, ◌<◌, zero-le}
use native.Mathlib.Omega.{arith}
use lib.Dec.{lit<, lit≤}
use lib.ListN.{length, take, replicate, length-replicate, length-append}
use lib.IntN.{pos, +ℤ_idl, +ℤ_idr}
use Rattle.std.specs.Prelude.{Ok}
use Rattle.fields.specs.Bytes.{part, from_le, to_le, field, overwrite}
use Rattle.fields.proofs.Overwrite.{length-overwrite}
use Rattle.fields.proofs.Numbers.{length-to_le}
use Rattle.fields.proofs.Holds.{Holds, holds-take, holds-overwrite, holds-part, holds-all, holds-left, holds-right}
use Rattle.fields.proofs.Records.{holds-nth, holds-num, holds-raw}
use Rattle.format.specs.declared.Placed.{Placed}
use Rattle.format.specs.Lists.{All, done, more, IsBytes}
use Rattle.format.specs.Layouts.{AARUFRMT, DDT*, tag, header_length, application_length, image_major_at, index_offset_at, index_offset, entries, header_bytes, index_bytes, table_bytes, table_header_length, table_entry_length}
use Rattle.format.specs.Opening.{offsets_with, is_table, Opened, opened, range_of, sector_count}
use Rattle.format.specs.Reading.{displaced, table_entry, unwritten, not_written, read}
use Rattle.format.specs.Writing.{most_sectors, longest_buffer}
use Rattle.format.specs.Creating.{created_index_at, created_used, created_entries, created_bytes, create}
use Rattle.format.specs.Facts.{Identified, HeaderOk, EntryOk, CreateOk}
use Rattle.format.specs.Demands.{HeaderSet, FreshDisc, Demand2Creating}
use Rattle.format.proofs.Tests.{same_true}
use Rattle.format.proofs.Lists.{all_take, all_drop, all_replicate}
use Rattle.format.proofs.Refusals.{answer-passes}
use Rattle.format.proofs.Numbers.{Numbered}
use Rattle.format.proofs.Checks.{OpenOk, open-ok, entry-21, read-numbered, Sound, created-used, create-ok}
use Rattle.format.proofs.Named.{identified-number, table-iff, offsets-yes}
use Rattle.format.proofs.Written.{EntryFits, length-header_bytes, length-table_bytes, table-identified, table-entries, length-index_bytes, opened_first, Opens, opens-written}
use Rattle.format.proofs.Bytes.{bytes-overwrite, bytes-created, tag-bytes}
use Rattle.format.proofs.Buffers.{outcome-accepted}
use Rattle.format.proofs.Reading.{outside-refused}

from_le-zeros : (l : List ℕ) → All (λ (b : ℕ). b ≡ 0) l → from_le l ≡ 0
unfolding from_le
from_le-zeros _ done = refl
from_le-zeros _ (more {a = b} {l = l} h hs) = rw (h, from_le-zeros l hs)

module _ (count : ℕ) (application : List ℕ) (major minor mediaType creationTime lastWrittenTime : ℕ) (sized : length application ≡ application_length) where
  abbrev new : List ℕ
  new = created_bytes count application major minor mediaType creationTime lastWrittenTime

  abbrev header : List ℕ
  header = header_bytes application major minor mediaType (created_index_at count) creationTime lastWrittenTime

  abbrev zeros : List ℕ
  zeros = replicate (table_entry_length * count) 0

  abbrev table : List ℕ
  table = table_bytes 0 count zeros

  length-zeros : length zeros ≡ table_entry_length * count
  length-zeros = length-replicate {A = ℕ} (table_entry_length * count) 0

  length-header : length header ≡ header_length
  length-header = length-header_bytes application major minor mediaType (created_index_at count) creationTime lastWrittenTime sized

  pub length-new : length new ≡ created_used count
  unfolding created_bytes created_used created_index_at
  length-new =
      let a = length-append header (table ++ index_bytes created_entries) in
      let b = length-append table (index_bytes created_entries) in
      let c = length-table_bytes 0 count zeros in
      let d = length-zeros in
      let e = length-index_bytes created_entries in
      let f = length-header in
      omega arith

  module _ (y : List ℕ) (h : Holds y 0 new) (few : count ≤ most_sectors) where
    abbrev o : ℕ
    o = created_index_at count

    h-rest : Holds y header_length (table ++ index_bytes created_entries)
    unfolding created_bytes
    h-rest = holds-right y 0 header (table ++ index_bytes created_entries) h (omega (arith, length-header))

    h-table : Holds y header_length table
    h-table = holds-left y header_length table (index_bytes created_entries) h-rest

    h-index : Holds y o (index_bytes created_entries)
    unfolding created_index_at
    h-index = holds-right y header_length table (index_bytes created_entries) h-rest (omega (arith, length-table_bytes 0 count zeros, length-zeros))

    y-long : created_used count ≤ length y
    y-long = omega (arith, h.fits, length-new)

    header-new : HeaderOk y
    unfolding Identified created_bytes header_bytes created_used created_index_at
    header-new =
        let e : 0 + (8 + (length application + 0)) ≡ image_major_at = omega arith in
        record {
          long = omega (arith, y-long);
          identifier = inl (holds-raw y 0 AARUFRMT _ _ h);
          major = subst (λ n. field y n 1 ≡ 2) e (holds-num y 0 _ _ h 2 1 2 (lit< tt) refl (lit< tt));
        }

    pub created-offset : index_offset y ≡ o
    unfolding index_offset created_bytes header_bytes created_index_at
    created-offset =
        let e : 0 + (8 + (length application + (1 + (1 + (1 + (1 + (4 + 0))))))) ≡ index_offset_at = omega arith in
        subst (λ n. field y n 8 ≡ o) e (holds-num y 0 _ _ h 7 8 o (lit< tt) refl (omega arith))

    -- its two fields that a commit sets, as bytes
    pub created-header : HeaderSet y o lastWrittenTime
    unfolding created_bytes header_bytes created_index_at
    created-header =
        let i : 0 + (8 + (length application + (1 + (1 + (1 + (1 + (4 + 0))))))) ≡ 80 = omega arith in
        let l : 0 + (8 + (length application + (1 + (1 + (1 + (1 + (4 + (8 + (8 + 0))))))))) ≡ 96 = omega arith in
        record {
          index_offset = rw (length-to_le 8 o) at (holds-all y _ _ (subst (λ n. Holds y n (to_le 8 o)) i (holds-nth y 0 _ _ h 7 (lit< tt))));
          lastWrittenTime = rw (length-to_le 8 lastWrittenTime) at (holds-all y _ _ (subst (λ n. Holds y n (to_le 8 lastWrittenTime)) l (holds-nth y 0 _ _ h 9 (lit< tt))));
        }

    -- ---- the table and the index
    fit : All EntryFits created_entries
    unfolding tag from_le
    fit = more (record { blockType = lit< tt; dataType = lit< tt; offset = lit< tt }) done

    named : All (EntryOk y) created_entries
    unfolding created_used created_index_at
    named =
        let fits : header_length + 4 ≤ length y = omega (arith, y-long) in
        more (record { low = lit≤ tt; fits = fits; identifier = identified-number y header_length DDT* (table-identified y header_length 0 count zeros h-table) }) done

    only : offsets_with is_table created_entries ≡ header_length ∷ []
    unfolding offsets_with
    only = offsets-yes is_table _ [] ((table-iff _).1 (inl (record { type = tag-bytes DDT* tt; user_data = refl })))

    abbrev pub new_opened : Opened
    new_opened = opened_first header_length count 0

    opens : Opens y o created_entries new_opened
    unfolding created_index_at
    opens =
        opens-written y o created_entries h-index (lit< tt) fit header_length 0 count zeros h-table zero-le length-zeros (omega (arith, length-zeros)) only
        header-new (omega arith) named

    pub nothing_written : (a : ℕ) → a < count → not_written y new_opened a ≡ true
    unfolding not_written unwritten table_entry field part
    nothing_written a k =
        let hp : Holds y (header_length + table_header_length) zeros = table-entries y header_length 0 count zeros h-table in
        let e : part y (header_length + table_header_length + table_entry_length * a) 8 ≡ part zeros (table_entry_length * a) 8 = holds-part y (header_length + table_header_length) zeros hp (table_entry_length * a) 8 (omega (arith, length-zeros)) in
        same_true _ _
        (ap from_le e ∙ from_le-zeros _ (all_take _ (all_drop _ (all_replicate (table_entry_length * count) 0 refl) (table_entry_length * a)) 8))

    pub created-opened : opened y o ≡ new_opened
    created-opened = opens.found

    pub created-entries : entries y o ≡ created_entries
    created-entries = opens.named

    pub created-sound : Sound y o
    created-sound = record { opens = opens.ok; first = rw opens.found refl; sectors = rw opens.found (λ a k. inl (nothing_written a k)) }

    -- ---- it reads as a new disc
    opened-new : opened y (index_offset y) ≡ new_opened
    opened-new = ap (opened y) created-offset ∙ created-opened

    open-new : OpenOk y (index_offset y)
    open-new = rw created-offset opens.ok

    sectors-new : sector_count y ≡ Ok (record { count = count; lowest = record { 0 = pos 0 } })
    unfolding sector_count range_of
    sectors-new = answer-passes _ _ ((open-ok y _).1 open-new) ∙ ap (λ (t : Opened). Ok (range_of t)) opened-new

    pub fresh : FreshDisc y count
    unfolding read displaced
    fresh =
        record {
          sectors = sectors-new;
          inside = λ n k.
              let m : Numbered new_opened (pos n) n = record { is = +ℤ_idr (pos n); inside = k } in
              read-numbered y _ open-new (pos n) n (rw opened-new m) ∙ entry-21 y _ n (rw opened-new (nothing_written n k));
          outside = λ a h. outside-refused y _ sectors-new a (λ n k e. h n k (e ∙ +ℤ_idl (pos n)));
        }

-- ---- an accepted creation, or an accepted import (Importing), that answered p and left `after`
pub record Started (p : Placed) (after : List ℕ) : Type 0 where
  pub long : length after ≤ longest_buffer
  pub inside : p.used ≤ length after
  pub offset : index_offset (take p.used after) ≡ p.index.0
  pub sound : Sound (take p.used after) p.index.0
  pub bytes : IsBytes after

-- the image that an accepted creation leaves holds what is created
module _ (buffer : List ℕ) (count : ℕ) (application : List ℕ) (major minor mediaType creationTime lastWrittenTime : ℕ) (k : CreateOk buffer count application) where
  abbrev run : List ℕ
  run = created_bytes count application major minor mediaType creationTime lastWrittenTime

  length_run : length run ≡ created_used count
  length_run = length-new count application major minor mediaType creationTime lastWrittenTime k.sized

  room : created_used count ≤ length buffer
  room = rw (created-used count) k.room

  fits : 0 + length run ≤ length buffer
  fits = omega (arith, length_run, room)

  held : Holds (take (created_used count) (overwrite buffer 0 run)) 0 run
  held = holds-take (overwrite buffer 0 run) (created_used count) 0 run (holds-overwrite buffer 0 run fits) (omega (arith, length_run))

pub create-accepted : (buffer : List ℕ) → IsBytes buffer → (count : ℕ) (application : List ℕ) → IsBytes application
    → (major minor mediaType creationTime lastWrittenTime : ℕ) (p : Placed)
    → (create buffer count application major minor mediaType creationTime lastWrittenTime).result ≡ Ok p
    → Started p (create buffer count application major minor mediaType creationTime lastWrittenTime).buffer
unfolding create
create-accepted buffer b count application ba major minor mediaType creationTime lastWrittenTime p e =
    let r = outcome-accepted _ _ _ _ p e in
    let k = (create-ok buffer count application).0 r.passes in
    let h = held buffer count application major minor mediaType creationTime lastWrittenTime k in
    let lo = length-overwrite buffer 0 (created_bytes count application major minor mediaType creationTime lastWrittenTime) in
    rw (r.buffer, ← r.answer)
    (record {
      long = omega (arith, k.long);
      inside = omega (arith, room buffer count application major minor mediaType creationTime lastWrittenTime k);
      offset = created-offset count application major minor mediaType creationTime lastWrittenTime k.sized _ h k.few;
      sound = created-sound count application major minor mediaType creationTime lastWrittenTime k.sized _ h k.few;
      bytes = bytes-overwrite buffer 0 _ (fits buffer count application major minor mediaType creationTime lastWrittenTime k) b (bytes-created count application ba major minor mediaType creationTime lastWrittenTime);
    })

pub demand-2-creating : Demand2Creating
unfolding create
demand-2-creating buffer count application major minor mediaType creationTime lastWrittenTime p e =
    let r = outcome-accepted _ _ _ _ p e in
    let k = (create-ok buffer count application).0 r.passes in
    rw (r.buffer, ← r.answer)
    (fresh count application major minor mediaType creationTime lastWrittenTime k.sized _ (held buffer count application major minor mediaType creationTime lastWrittenTime k) k.few)
