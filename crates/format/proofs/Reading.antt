-- An address is located, and its sector given, exactly if it names an intact item, and then it is that item. Demand 2 for reading.
use mathlib.Core.Bool.{true, false}
use mathlib.Core.List.{List, []}
use mathlib.Core.Path.{◌≡◌, refl, sym, ap, ◌∙◌, subst}
use mathlib.Core.Logic.{◌≢◌, ⊎_elim, ◌↔◌}
use Prim.Native.Nat.{ℕ, ◌+◌, ◌*◌, ◌/◌, ◌%◌, ◌^◌, ◌≤◌}
use native.Mathlib.Nat.{mod-lt}
use native.Mathlib.Omega.{arith}
use lib.ListN.{length}
use lib.IntN.{ℤ, pos, ◌+ℤ◌}
use lib.Pow.{pow_pos, high, low}
use Rattle.std.specs.Prelude.{Ok, Err}
use Rattle.fields.specs.Bytes.{part}
use Rattle.fields.proofs.Overwrite.{length_part}
use Rattle.format.specs.declared.AddressRange.{AddressRange}
use Rattle.format.specs.declared.Place.{Place}
use Rattle.format.specs.declared.TableKind.{TableKind}
use Rattle.format.specs.declared.TableKind.TheVariants.{First, Second}
use Rattle.format.specs.Refusals.{Answer, answer, Verdict}
use Rattle.format.specs.Layouts.{DBLK, index_offset, entries, entry_status, entry_pointer, decode, table_shift, table_alignment}
use Rattle.format.specs.Opening.{table_at, kind_at, Opened, opened_as, opened, range_of, sector_count}
use Rattle.format.specs.Reading.{displaced, outside, entry_number, table_entry, unwritten, not_written, unknown, unknown_status, pointer_at, place_of, item_bytes, read_verdict, pointer_of, read_at, read, locate}
use Rattle.format.specs.Answers.{bytes_read}
use Rattle.format.specs.Committing.{item_of}
use Rattle.format.specs.Facts.{PointsWith, written, dumped, NotWritten, HasEntry, EntryNames}
use Rattle.format.specs.Demands.{NamesItem, ItemIs, Demand2Reading, Demand2Returned, part_at, ReadIsLocated, LocateRefusesAsRead, LocatedInside, OutsideRefused}
use Rattle.format.proofs.Tests.{on-or-off, same-on, same_true, same-iff, differs-iff}
use Rattle.format.proofs.Refusals.{answer-passes, answer-refuses, answer-accepted, answer-refused}
use Rattle.format.proofs.Checks.{item-inside, open-ok, read-20, read_ok, SectorOk}
use Rattle.format.proofs.Named.{named}
use Rattle.format.proofs.Opens.{opens-forth, opens_back, opened-as}
use Rattle.format.proofs.Numbers.{Numbered, inside-number, number-inside, number_is, address-displaced, displaced-same}

-- ---- the pointer of a table entry, which is neither not written nor of another status, and the other way round
points-forth : (k : TableKind) (entry : ℕ) → unwritten k entry ≡ false → unknown k entry ≡ false → PointsWith k entry (entry_pointer k entry)
unfolding unwritten unknown entry_status entry_pointer
points-forth First entry h u = written (same-iff.0 h)
points-forth Second entry h u =
    let s : entry / 2 ^ 28 ≡ 1 = differs-iff.0 u in
    let e : 1 * 2 ^ 28 + entry % 2 ^ 28 ≡ entry = omega arith in
    subst (λ n. PointsWith Second n (entry % 2 ^ 28)) e (dumped (mod-lt entry (pow_pos 28)))

record Points (k : TableKind) (entry pointer : ℕ) : Type 0 where
  here : unwritten k entry ≡ false
  known : unknown k entry ≡ false
  is : entry_pointer k entry ≡ pointer

points-back : (k : TableKind) (entry pointer : ℕ) → PointsWith k entry pointer → Points k entry pointer
unfolding unwritten unknown entry_status entry_pointer
points-back First _ _ (written h) = record { here = same-iff.1 h; known = refl; is = refl }
points-back Second _ _ (dumped {pointer = p} h) =
    let s : (1 * 2 ^ 28 + p) / 2 ^ 28 ≡ 1 = high 1 28 h in
    record { here = same-iff.1 (λ e. absurd (omega arith)); known = differs-iff.1 s; is = low 1 28 h }

-- ---- a table entry is not written exactly if the test of it says so
pub not_written_lem : (img : List ℕ) (k : TableKind) (t n : ℕ) → (not_written img (opened_as img k t) n ≡ true) ↔ NotWritten img k t n
unfolding not_written unwritten entry_status table_entry opened_as NotWritten
not_written_lem img First t n = (same-on _ _, same_true _ _)
not_written_lem img Second t n = ((λ h. let z = same-on _ _ h in omega arith), λ h. same_true _ _ (omega arith))

-- ---- a table entry names an item exactly if its sector's checks pass
module _ (img : List ℕ) (o : ℕ) (k : TableKind) (t n : ℕ) where
  pub entry-forth : SectorOk img (entries img o) (opened_as img k t) n → EntryNames img o k t n
  unfolding opened_as not_written unknown_status table_entry pointer_at decode
  entry-forth q =
      record {
        entry = table_entry img (opened_as img k t) n;
        entry_there = refl;
        pointer = entry_pointer k (table_entry img (opened_as img k t) n);
        written = points-forth _ _ q.written q.known;
        block = (pointer_at img (opened_as img k t) n).block.0;
        block_place = refl;
        item = (pointer_at img (opened_as img k t) n).item.0;
        item_number = refl;
        indexed = (named DBLK _ (entries img o)).0 q.named;
        item_ok = q.item;
      }

  module _ (e : EntryNames img o k t n) where
    points : Points k e.entry e.pointer
    points = points-back k e.entry e.pointer e.written

    pub pointer_is : pointer_at img (opened_as img k t) n ≡ item_of e.block e.item
    unfolding pointer_at table_entry opened_as decode
    pointer_is =
        ap (λ m. decode (table_shift img k t) (table_alignment img k t) (entry_pointer k m)) e.entry_there
        ∙ ap (decode (table_shift img k t) (table_alignment img k t)) points.is
        ∙ (λ i. item_of (e.block_place i) (e.item_number i))

    pub entry-back : SectorOk img (entries img o) (opened_as img k t) n
    unfolding not_written unknown_status table_entry opened_as
    entry-back =
        record {
          written = ap (unwritten k) e.entry_there ∙ points.here;
          known = ap (unknown k) e.entry_there ∙ points.known;
          named = rw pointer_is ((named DBLK e.block (entries img o)).1 e.indexed);
          item = rw pointer_is e.item_ok;
        }

-- ---- an address has a table entry exactly if it is not outside
module _ (img : List ℕ) (k : TableKind) (t : ℕ) (a : ℤ) where
  pub inside-entry : outside (opened_as img k t) a ≡ false → HasEntry img k t a
  unfolding opened_as displaced
  inside-entry h = let m = inside-number (opened_as img k t) a h in record { number = entry_number (opened_as img k t) a; numbered = m.is; inside = m.inside }

  module _ (e : HasEntry img k t a) where
    numbered : Numbered (opened_as img k t) a e.number
    unfolding opened_as displaced
    numbered = record { is = e.numbered; inside = e.inside }

    pub entry-inside : outside (opened_as img k t) a ≡ false
    entry-inside = number-inside (opened_as img k t) a e.number numbered

    pub entry-number : entry_number (opened_as img k t) a ≡ e.number
    entry-number = number_is (opened_as img k t) a e.number numbered

-- ---- an address is located exactly if it names an item
module _ (img : List ℕ) (a : ℤ) (p : Place) where
  abbrev o : ℕ
  o = index_offset img

  forth : locate img a ≡ Ok p → NamesItem img a p
  unfolding locate opened pointer_of place_of entry-forth inside-entry
  forth e =
      let r = answer-accepted _ _ p e in
      let v = (read_ok img o a).0 r.0 in
      record {
        kind = kind_at img (table_at img o);
        table = table_at img o;
        opens = opens-forth img o v.opens;
        has_entry = inside-entry img _ _ a v.inside;
        names = entry-forth img o _ _ _ v.sector;
        start = ap (λ (l : Place). l.start.0) (sym r.1);
        size = ap (λ (l : Place). l.size) (sym r.1);
      }

  module _ (n : NamesItem img a p) where
    abbrev t : Opened
    t = opened_as img n.kind n.table

    opened-is : opened img o ≡ t
    opened-is = opened-as img o n.kind n.table n.opens

    number : entry_number t a ≡ n.has_entry.number
    number = entry-number img n.kind n.table a n.has_entry

    passes : read_verdict img o a ≡ Ok tt
    passes =
        (read_ok img o a).1
        (record {
          opens = opens_back img o n.kind n.table n.opens;
          inside = rw opened-is (entry-inside img n.kind n.table a n.has_entry);
          sector = rw (opened-is, number) (entry-back img o n.kind n.table n.has_entry.number n.names);
        })

    back : locate img a ≡ Ok p
    unfolding locate pointer_of place_of
    back =
        answer-passes _ _ passes
        ∙ ap Ok
        (ap (λ (u : Opened). place_of img (pointer_at img u (entry_number u a))) opened-is ∙ ap (λ m. place_of img (pointer_at img t m)) number
        ∙ ap (place_of img) (pointer_is img o n.kind n.table n.has_entry.number n.names)
        ∙ (λ i. record { start = record { 0 = sym n.start i }; size = sym n.size i }))

pub locating : (img : List ℕ) (a : ℤ) (p : Place) → (locate img a ≡ Ok p) ↔ NamesItem img a p
locating img a p = (forth img a p, back img a p)

-- ---- a read gives the bytes at that place
module _ (img : List ℕ) (a : ℤ) (sector : List ℕ) where
  reads-forth : read img a ≡ Ok sector → ItemIs img a sector
  unfolding read read_at locate item_bytes
  reads-forth e =
      let r = answer-accepted _ _ sector e in
      record { place = _; names = (locating img a _).0 (answer-passes _ _ r.0); bytes = r.1 }

  reads-back : ItemIs img a sector → read img a ≡ Ok sector
  unfolding read read_at locate item_bytes
  reads-back n =
      let r = answer-accepted _ _ n.place ((locating img a n.place).1 n.names) in
      answer-passes _ _ r.0 ∙ ap Ok (ap (λ (l : Place). part img l.start.0 l.size) r.1 ∙ n.bytes)

pub demand-2-reading : Demand2Reading
demand-2-reading img a sector = (reads-forth img a sector, reads-back img a sector)

-- ---- the same of what the call hands out
-- the place of an item lies in the image, and no item is empty
module _ (img : List ℕ) (a : ℤ) (p : Place) (n : NamesItem img a p) where
  pub item-fits : p.start.0 + p.size ≤ length img
  item-fits = let k = n.names.item_ok in rw (n.start, n.size) (omega (arith, item-inside _ _ _ k, k.block.fits))

  pub item-some : part img p.start.0 p.size ≢ []
  item-some e = n.names.item_ok.block.size (sym n.size ∙ sym (length_part img p.start.0 p.size item-fits) ∙ ap length e)

given : (img : List ℕ) (a : ℤ) (sector : List ℕ) (r : Answer (List ℕ)) → read img a ≡ r → bytes_read r ≡ sector → sector ≢ [] → read img a ≡ Ok sector
unfolding bytes_read
given img a sector (Ok l) q e s = q ∙ ap Ok e
given img a sector (Err r) q e s = absurd (s (sym e))

pub demand-2-returned : Demand2Returned
unfolding bytes_read
demand-2-returned img a sector = (
  (λ (e, s). (demand-2-reading img a sector).0 (given img a sector (read img a) refl e s)),
  λ n. (ap bytes_read ((demand-2-reading img a sector).1 n), λ e. item-some img a n.place n.names (n.bytes ∙ e)),
)

-- ---- it is the part that `locate` names
same-part : (img : List ℕ) (p : Place) (v : Verdict) → bytes_read (answer v (part img p.start.0 p.size)) ≡ part_at img (answer v p)
unfolding bytes_read part_at answer
same-part img p (Ok tt) = refl
same-part img p (Err r) = refl

pub read-is-located : ReadIsLocated
unfolding read read_at locate item_bytes part_at
read-is-located img a = (
  same-part img _ (read_verdict img (index_offset img) a),
  λ p e z. item-some img a p ((locating img a p).0 e) (sym (ap (part_at img) e) ∙ sym (same-part img _ (read_verdict img (index_offset img) a)) ∙ z),
)

-- ---- it is refused as the other is
pub locate-refuses-as-read : LocateRefusesAsRead
unfolding read read_at locate
locate-refuses-as-read img a r = (
  (λ e. answer-refuses _ _ r (answer-refused _ _ r e)),
  λ e. answer-refuses _ _ r (answer-refused _ _ r e),
)

-- ---- which lies in the image
pub located-inside : LocatedInside
located-inside img a p e = item-fits img a p ((locating img a p).0 e)

-- ---- an address that is none of the disc's
pub outside-refused : OutsideRefused
unfolding sector_count read range_of
outside-refused img range e a h =
    let o : ℕ = index_offset img in
    let t : Opened = opened img o in
    let r = answer-accepted _ _ range e in
    read-20 img o ((open-ok img o).0 r.0) a
    (⊎_elim (λ q. q)
    (λ q.
    let m = inside-number t a q in
    let count : t.count ≡ range.count = ap (λ (g : AddressRange). g.count) r.1 in
    let low : range.lowest.0 ≡ (range_of t).lowest.0 = ap (λ (g : AddressRange). g.lowest.0) (sym r.1) in
    absurd
    (h (entry_number t a) (omega (arith, m.inside))
    (displaced-same t a _ (m.is ∙ sym (address-displaced t _ (pos (entry_number t a)) (ap (λ (z : ℤ). z +ℤ pos (entry_number t a)) low))))))
    (on-or-off (outside t a)))
