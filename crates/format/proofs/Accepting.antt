-- Each call is accepted exactly if its facts hold.
use mathlib.Core.Bool.{true, false}
use mathlib.Core.List.{List}
use mathlib.Core.Logic.Iff
use mathlib.Core.Logic.{◌≢◌, ◌⊎◌, inl, inr, ⊎_elim, ⊎_map, ◌↔◌}
use mathlib.Core.Path.{◌≡◌, sym, ap, ◌∙◌, subst}
use Prim.Native.Nat.{ℕ, ◌+◌, ◌*◌, ◌/◌, ◌%◌, ◌≤◌, ◌<◌}
use native.Mathlib.Nat.{pos_of_ne-zero, zero-mul, mul-mod_left, mul-le-mul_right, eq-or-lt_of_le}
use native.Mathlib.Omega.{arith}
use lib.ListN.{length, take, length-map}
use lib.Seq.{length-take-le}
use lib.IntN.{ℤ, pos, neg_ℤ, ◌+ℤ◌, ◌-ℤ◌, +ℤ_idl, +ℤ_invl, +ℤ-neg_ℤ_cancel}
use Rattle.std.specs.Prelude.{Ok}
use Rattle.format.specs.declared.AddressRange.{AddressRange}
use Rattle.format.specs.declared.Flat.{Flat}
use Rattle.format.specs.declared.Placed.{Placed}
use Rattle.format.specs.declared.Pointer.{Pointer}
use Rattle.format.specs.declared.TableKind.{TableKind}
use Rattle.format.specs.declared.TableKind.TheVariants.{First}
use Rattle.format.specs.Layouts.{index_offset, entries, sector_size, table_count, table_negative}
use Rattle.format.specs.Opening.{table_at, kind_at, Opened, opened_as, opened, range_of, sector_count}
use Rattle.format.specs.Reading.{not_written, place_of}
use Rattle.format.specs.Writing.{Outcome, placed}
use Rattle.format.specs.Creating.{created_index_at, created_used, create}
use Rattle.format.specs.Committing.{append, commit}
use Rattle.format.specs.RollingBack.{rollback}
use Rattle.format.specs.Exporting.{size_at, flat_size, flat_file, gap_count, export_exact, flat, export}
use Rattle.format.specs.Importing.{import}
use Rattle.format.specs.Facts.{Opens, NotWritten, EntryNames, DiscOk}
use Rattle.format.specs.Demands.{HasSectors, new_entries, CommitOk, ExportExactOk, ExportOk, new_image, ImportOk, Demand1Accepted}
use Rattle.format.proofs.Tests.{on-or-off, off_rest}
use Rattle.format.proofs.Lists.{all_map, how_many-most, how_many-all, how_many-counts, counts-is, how_many-none}
use Rattle.format.proofs.Refusals.{answer-passes, answer-accepted}
use Rattle.format.proofs.Checks.{open-ok, SectorOk, AddressOk, created-index, created-used, create-ok, Sound, DiscSound, commit-ok, rollback-ok}
use Rattle.format.proofs.Opens.{opens-forth, opens_back, opened-as, writable-with}
use Rattle.format.proofs.Addresses.{inside-each, each-inside}
use Rattle.format.proofs.Buffers.{outcome-accepts}
use Rattle.format.proofs.Reading.{not_written_lem, entry-forth, pointer_is, entry-back, inside-entry, entry-inside, locating}
use Rattle.format.proofs.Overlaid.{locating-over}
use Rattle.format.proofs.Flattened.{flatten-forth, flatten_back}
use Rattle.format.proofs.Exporting.{SizeOk, exact-ok, export_ok, size-or-none, flat-size, file-length}
use Rattle.format.proofs.Composed.{composed-stores, composed-ends}
use Rattle.format.proofs.Importing.{Importable, verdict-ok, file-whole, file-some, file-few, file-count, numbers_of, addresses-length, composable, import-is, import-accepted}
use Rattle.format.proofs.Ends.{additions, index_is, end_is, ends_at}

-- ---- counting
count-forth : (img : List ℕ) (r : AddressRange) → sector_count img ≡ Ok r → HasSectors img r
unfolding sector_count range_of opened opened_as
count-forth img r e =
    let o = index_offset img in
    let k = answer-accepted _ _ r e in
    let n : ℤ = pos (table_negative img (kind_at img (table_at img o)) (table_at img o)) in
    record {
      kind = kind_at img (table_at img o);
      table = table_at img o;
      opens = opens-forth img o ((open-ok img o).0 k.0);
      count = ap (λ (q : AddressRange). q.count) (sym k.1);
      lowest = ap (λ (q : AddressRange). q.lowest.0 +ℤ n) (sym k.1) ∙ +ℤ_invl n;
    }

-- the number below which 0 is by m
lowest-is : (z : ℤ) (m : ℕ) → z +ℤ pos m ≡ pos 0 → neg_ℤ (pos m) ≡ z
lowest-is z m e = sym (+ℤ_idl (neg_ℤ (pos m))) ∙ sym (ap (λ (y : ℤ). y -ℤ pos m) e) ∙ +ℤ-neg_ℤ_cancel z (pos m)

count-back : (img : List ℕ) (r : AddressRange) → HasSectors img r → sector_count img ≡ Ok r
unfolding sector_count range_of opened_as
count-back img r n =
    let low = lowest-is _ _ n.lowest in
    answer-passes _ _ ((open-ok img _).1 (opens_back img _ n.kind n.table n.opens))
    ∙ ap Ok (ap range_of (opened-as img _ n.kind n.table n.opens) ∙ (λ i. record { count = sym n.count i; lowest = record { 0 = low i } }))

-- ---- the disc of a commit
module _ (img : List ℕ) (o t : ℕ) (n : Opens img o First t) where
  abbrev u : Opened
  u = opened_as img First t

  opened-is : opened img o ≡ u
  opened-is = opened-as img o First t n

  -- a table entry
  first_entry : (m : ℕ) → ((not_written img u m ≡ true) ⊎ SectorOk img (entries img o) u m) ↔ (NotWritten img First t m ⊎ EntryNames img o First t m)
  first_entry m = (⊎_map (not_written_lem img First t m).0 (entry-forth img o First t m), ⊎_map (not_written_lem img First t m).1 (entry-back img o First t m))

  disc-forth : (addresses : List ℤ) → DiscSound img o addresses → DiscOk img o addresses t
  unfolding opened_as
  disc-forth addresses d =
      record {
        opens = n;
        inside = all_map (inside-entry img First t) (inside-each u addresses (rw opened-is at d.inside));
        sectors = λ m h. (first_entry m).0 (rw opened-is at (d.sound.sectors m (rw opened-is h)));
      }

disc-back : (img : List ℕ) (o : ℕ) (addresses : List ℤ) (t : ℕ) → DiscOk img o addresses t → DiscSound img o addresses
unfolding opened_as
disc-back img o addresses t d =
    let is = opened-is img o t d.opens in
    let w = (writable-with img o).1 (record { table = t; opens = d.opens }) in
    record {
      sound = record { opens = w.opens; first = w.first; sectors = rw is (λ m h. (first_entry img o t d.opens m).1 (d.sectors m h)) };
      inside = rw is (each-inside _ addresses (all_map (entry-inside img First t) d.inside));
    }

-- ---- committing
module _ (buffer : List ℕ) (used : ℕ) (addresses : List ℤ) (size : ℕ) (sectors : List ℕ) (time : ℕ) (p : Placed) where
  abbrev img : List ℕ
  img = take used buffer

  abbrev o : ℕ
  o = index_offset img

  commit-forth : (commit buffer used addresses size sectors time).result ≡ Ok p → CommitOk buffer used addresses size sectors p
  unfolding commit append
  commit-forth e =
      let r = (outcome-accepts _ _ _ _ p).0 e in
      let k = (commit-ok buffer used addresses size sectors _).0 r.0 in
      let s : Sound img o = k.disc.sound in
      let n = (writable-with img o).0 (record { opens = s.opens; first = s.first }) in
      let whole = k.arguments.whole in
      let long : length img ≡ used = length-take-le used buffer k.arguments.buffer_ok.inside in
      record {
        arguments = k.arguments;
        table = n.table;
        disc = disc-forth img o n.table n.opens addresses k.disc;
        additions = additions img s used long addresses size sectors whole;
        index = sym (ap (λ (q : Placed). q.index.0) r.1) ∙ index_is img s used long addresses size sectors whole n.table n.opens;
        end =
            sym (ap (λ (q : Placed). q.used) r.1) ∙ end_is img s used long addresses size sectors whole n.table n.opens
            ∙ ap (λ (m : ℕ). m + (20 + 16 * length (new_entries (additions img s used long addresses size sectors whole)))) (ap (λ (q : Placed). q.index.0) r.1);
        room = subst (λ (q : Placed). q.used ≤ length buffer) r.1 k.room;
      }

  commit-back : CommitOk buffer used addresses size sectors p → (commit buffer used addresses size sectors time).result ≡ Ok p
  unfolding commit append
  commit-back c =
      let d : DiscSound img o addresses = disc-back img o addresses c.table c.disc in
      let long : length img ≡ used = length-take-le used buffer c.arguments.buffer_ok.inside in
      let e = ends_at img d.sound used long addresses size sectors c.arguments.whole c.table c.disc.opens c.additions p c.index c.end in
      (outcome-accepts _ _ _ _ p).1
      ((commit-ok buffer used addresses size sectors _).1 (record { arguments = c.arguments; disc = d; room = rw (← ap (λ (q : Placed). q.used) e) at c.room }), e)

-- ---- exporting
-- the size of a sector whose table entry names an item
names-size : (img : List ℕ) (o : ℕ) (k : TableKind) (t i : ℕ) (e : EntryNames img o k t i) → size_at img (opened_as img k t) i ≡ sector_size img e.block
unfolding size_at place_of
names-size img o k t i e = ap (λ (q : Pointer). sector_size img q.block.0) (pointer_is img o k t i e)

module _ (img out : List ℕ) where
  abbrev at : ℕ
  at = index_offset img

  abbrev kind-at : TableKind
  kind-at = kind_at img (table_at img at)

  -- what the facts of both rules come to
  module _ (k : TableKind) (t : ℕ) (opens : Opens img at k t) (size : ℕ)
      (each : (i : ℕ) → i < table_count img k t → NotWritten img k t i ⊎ EntryNames img at k t i)
      (sized : (i : ℕ) → i < table_count img k t → (e : EntryNames img at k t i) → sector_size img e.block ≡ size) where
    is : opened img at ≡ opened_as img k t
    is = opened-as img at k t opens

    addresses : (i : ℕ) → i < (opened img at).count → AddressOk img at i
    unfolding opened_as
    addresses = rw is (λ i h. ⊎_map (not_written_lem img k t i).1 (entry-back img at k t i) (each i h))

    written-sized : (i : ℕ) → i < (opened img at).count → not_written img (opened img at) i ≡ false → size_at img (opened img at) i ≡ size
    unfolding opened_as
    written-sized =
        rw is
        (λ i h w. let e = off_rest w (⊎_map (not_written_lem img k t i).1 (λ (x : EntryNames img at k t i). x) (each i h)) in names-size img at k t i e ∙ sized i h e)

    sizes : (i : ℕ) → i < (opened img at).count → SizeOk img (opened img at) i
    sizes i h = ⊎_map (λ e. e) (λ w. written-sized i h w ∙ sym (flat-size img (opened img at) size written-sized i h w)) (on-or-off (not_written img (opened img at) i))

    long_as : ((opened img at).count ≡ 0) ⊎ (gap_count img (opened img at) ≢ (opened img at).count) → length (flat_file img (opened img at)) ≡ table_count img k t * size
    unfolding opened_as gap_count flat_size
    long_as some =
        let u : Opened = opened img at in
        file-length img at addresses sizes
        ∙ ⊎_elim (λ z. ap (λ n. n * flat_size img u) z ∙ zero-mul _ ∙ sym (ap (λ n. n * size) z ∙ zero-mul _))
        (λ d. ap (λ n. u.count * n)
        (⊎_elim (λ q. q) (λ none. absurd (d (how_many-all _ _ 0 none))) (size-or-none img u size u.count 0 (λ m l b. written-sized m (omega arith)))))
        some
        ∙ ap (λ (v : Opened). v.count * size) is

  -- by 4/13's rule
  exact-forth : (n : ℕ) → (export_exact img out).result ≡ Ok n → ExportExactOk img out n
  unfolding export_exact opened opened_as
  exact-forth n e =
      let r = (outcome-accepts _ _ _ _ n).0 e in
      let k = (exact-ok img at out).0 r.0 in
      record {
        kind = kind-at;
        table = table_at img at;
        opens = opens-forth img at k.opens;
        names = λ i h. entry-forth img at kind-at (table_at img at) i (k.sectors i h);
        size = flat_size img (opened img at);
        sized = λ i h. sym (names-size img at _ _ i (entry-forth img at _ _ i (k.sectors i h))) ∙ off_rest (k.sectors i h).written (k.file.sizes i h);
        whole = sym r.1 ∙ file-length img at (λ i h. inr (k.sectors i h)) k.file.sizes;
        room = rw r.1 at k.file.room;
      }

  exact-back : (n : ℕ) → ExportExactOk img out n → (export_exact img out).result ≡ Ok n
  unfolding export_exact opened_as gap_count
  exact-back n e =
      let u : Opened = opened img at in
      let is-as : u ≡ opened_as img e.kind e.table = opened-as img at e.kind e.table e.opens in
      let sectors : (i : ℕ) → i < u.count → SectorOk img (entries img at) u i = rw is-as (λ i h. entry-back img at e.kind e.table i (e.names i h)) in
      let each : (i : ℕ) → i < table_count img e.kind e.table → NotWritten img e.kind e.table i ⊎ EntryNames img at e.kind e.table i = λ i h. inr (e.names i h) in
      let sized : (i : ℕ) → i < table_count img e.kind e.table → (x : EntryNames img at e.kind e.table i) → sector_size img x.block ≡ e.size =
      λ i h x. sym (names-size img at _ _ i x) ∙ names-size img at _ _ i (e.names i h) ∙ e.sized i h in
      let some : (u.count ≡ 0) ⊎ (gap_count img u ≢ u.count) =
      ⊎_elim (λ z. inl (sym z)) (λ z. inr (λ q. omega (arith, how_many-none (not_written img u) u.count 0 (λ i l h. (sectors i (omega arith)).written)))) (eq-or-lt_of_le (omega arith)) in
      let l : length (flat_file img u) ≡ n = long_as e.kind e.table e.opens e.size each sized some ∙ sym e.whole in
      (outcome-accepts _ _ _ _ n).1 (
        (exact-ok img at out).1
            (record {
              opens = opens_back img at e.kind e.table e.opens;
              sectors = sectors;
              file = record { sizes = sizes e.kind e.table e.opens e.size each sized; room = rw l e.room };
            }),
        l,
      )

  -- by 9/13's
  export-forth : (n : Flat) → (export img out).result ≡ Ok n → ExportOk img out n
  unfolding export opened opened_as gap_count
  export-forth n e =
      let r = (outcome-accepts _ _ _ _ n).0 e in
      let k = (export_ok img at out).0 r.0 in
      let filled : gap_count img (opened img at) ≡ n.filled = ap (λ (m : Flat). m.filled) r.1 in
      let long : length (flat_file img (opened img at)) ≡ n.length = ap (λ (m : Flat). m.length) r.1 in
      record {
        kind = kind-at;
        table = table_at img at;
        opens = opens-forth img at k.opens;
        each = λ i h. ⊎_map (not_written_lem img kind-at (table_at img at) i).0 (entry-forth img at kind-at (table_at img at) i) (k.sectors i h);
        filled = rw filled at (how_many-counts (not_written img (opened img at)) (opened img at).count 0 (λ i l h. not_written_lem img kind-at (table_at img at) i));
        some = ⊎_map (λ z. z) (λ d. omega (arith, how_many-most (not_written img (opened img at)) (opened img at).count 0)) k.some;
        size = flat_size img (opened img at);
        sized = λ i h x. sym (names-size img at _ _ i x) ∙ off_rest (entry-back img at _ _ i x).written (k.file.sizes i h);
        whole = sym long ∙ file-length img at k.sectors k.file.sizes;
        room = rw long at k.file.room;
      }

  export-back : (n : Flat) → ExportOk img out n → (export img out).result ≡ Ok n
  unfolding export opened_as gap_count
  export-back n e =
      let u : Opened = opened img at in
      let is-as : u ≡ opened_as img e.kind e.table = opened-as img at e.kind e.table e.opens in
      let gaps : gap_count img u ≡ n.filled = rw is-as (counts-is _ _ 0 n.filled (λ i l h. not_written_lem img e.kind e.table i) e.filled) in
      let some : (u.count ≡ 0) ⊎ (gap_count img u ≢ u.count) = rw is-as (⊎_map (λ z. z) (λ b q. omega (arith, rw is-as at gaps)) e.some) in
      let l : length (flat_file img u) ≡ n.length = long_as e.kind e.table e.opens e.size e.each e.sized some ∙ sym e.whole in
      (outcome-accepts _ _ _ _ n).1 (
        (export_ok img at out).1
            (record {
              opens = opens_back img at e.kind e.table e.opens;
              sectors = addresses e.kind e.table e.opens e.size e.each e.sized;
              some = some;
              file = record { sizes = sizes e.kind e.table e.opens e.size e.each e.sized; room = rw l e.room };
            }),
        λ j. flat (l j) (gaps j),
      )

-- ---- importing
module _ (buffer file : List ℕ) (size : ℕ) (application : List ℕ) (major minor mediaType creationTime lastWrittenTime : ℕ) (p : Placed) where
  abbrev n : ℕ
  n = length file / size

  -- the sectors of the file
  all-numbers : length (numbers_of n) ≡ n
  all-numbers = sym (length-map (numbers_of n) pos) ∙ addresses-length n

  some-numbers : Importable buffer file size application → 0 < length (numbers_of n)
  some-numbers k = rw all-numbers (pos_of_ne-zero (file-some k))

  import-forth : (import buffer file size application major minor mediaType creationTime lastWrittenTime).result ≡ Ok p → ImportOk buffer file size application p
  import-forth e =
      let i = import-accepted buffer file size application major minor mediaType creationTime lastWrittenTime p e in
      let k = i.checked in
      let c = composable k in
      let st = composed-stores _ _ _ _ _ _ major minor mediaType creationTime lastWrittenTime c (some-numbers k) in
      record {
        long = k.long;
        some = k.some;
        small = k.small;
        count = n;
        counted = (pos_of_ne-zero (file-some k), file-few k);
        whole = file-whole k;
        sized = k.sized;
        stored = st.stored;
        stores = rw all-numbers at st.stores;
        end = sym i.answer ∙ composed-ends _ _ _ _ _ _ _ _ _ _ _ c (some-numbers k) _ st.stores;
        room = subst (λ (x : Placed). x.used ≤ length buffer) i.answer i.room;
      }

  import-back : ImportOk buffer file size application p → (import buffer file size application major minor mediaType creationTime lastWrittenTime).result ≡ Ok p
  import-back c =
      let is : c.count ≡ n = file-count file size c.count c.some c.whole in
      let k : Importable buffer file size application =
      record {
        long = c.long;
        some = c.some;
        small = c.small;
        any = λ z. c.some (omega (arith, c.whole, mul-le-mul_right size c.counted.0));
        few = rw c.whole (mul-le-mul_right size c.counted.1);
        whole = ap (λ m. m % size) c.whole ∙ mul-mod_left c.count size;
        sized = c.sized;
      } in
      let e = composed-ends _ _ _ _ _ _ _ _ _ _ _ (composable k) (some-numbers k) c.stored (rw (all-numbers, ← is) c.stores) ∙ sym (c.end ∙ ap (λ m. new_image m size c.stored) is) in
      ap (λ (w : Outcome Placed). w.result) (import-is buffer file size application major minor mediaType creationTime lastWrittenTime)
      ∙ (outcome-accepts _ _ _ _ p).1
      ((verdict-ok buffer file size application major minor mediaType creationTime lastWrittenTime).1 (k, rw (ap (λ (x : Placed). x.used) e) c.room), e)

pub demand-1-accepted : Demand1Accepted
unfolding create rollback
demand-1-accepted = record {
  counting = λ img r. (count-forth img r, count-back img r);
  locating = locating;
  creating = λ buffer count application major minor mediaType creationTime lastWrittenTime p.
      let is : placed (created_used count) (created_index_at count) ≡ placed (189 + 8 * count) (153 + 8 * count) = λ i. placed (created-used count i) (created-index count i) in
      Iff.trans (outcome-accepts _ _ _ _ p) (Iff.and (create-ok buffer count application) ((λ e. sym e ∙ is), λ e. is ∙ sym e));
  committing = λ buffer used addresses size sectors time p. (commit-forth buffer used addresses size sectors time p, commit-back buffer used addresses size sectors time p);
  rolling_back = λ buffer used offset time p.
      Iff.trans (outcome-accepts _ _ _ _ p)
      (Iff.and
      (Iff.trans (rollback-ok buffer used offset)
      ((λ k. record { buffer_ok = k.buffer_ok; opens = (writable-with _ offset).0 k.writable }), λ k. record { buffer_ok = k.buffer_ok; writable = (writable-with _ offset).1 k.opens }))
      (sym, sym));
  exporting_exactly = λ img out n. (exact-forth img out n, exact-back img out n);
  exporting = λ img out n. (export-forth img out n, export-back img out n);
  importing = λ buffer file size application major minor mediaType creationTime lastWrittenTime p.
      (import-forth buffer file size application major minor mediaType creationTime lastWrittenTime p, import-back buffer file size application major minor mediaType creationTime lastWrittenTime p);
  locating_over = locating-over;
  flattening = λ buffer child parent application major minor mediaType creationTime lastWrittenTime p.
      (flatten-forth buffer child parent application major minor mediaType creationTime lastWrittenTime p, flatten_back buffer child parent application major minor mediaType creationTime lastWrittenTime p);
}
