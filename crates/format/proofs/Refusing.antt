-- Demand 1: the numbers that each call refuses with, and their places. What holds of the number and the place of each row of a chain holds of what the chain
-- refuses with.
use Prim.{Unit, tt}
use mathlib.Core.Bool.{Bool, true, false, true≢false}
use mathlib.Core.List.{List, [], ◌∷◌}
use mathlib.Core.Logic.Iff
use mathlib.Core.Logic.{◌≢◌, ◌⊎◌, inl, inr, ⊎_elim, ◌↔◌}
use mathlib.Core.Path.{◌≡◌, refl, sym, ◌∙◌, subst}
use Prim.Native.Nat.{ℕ, zero, suc, ◌+◌, ◌*◌, ◌≤◌, ◌<◌}
use native.Mathlib.Nat.{eq-or-lt_of_le}
use native.Mathlib.Omega.{arith}
use lib.ListN.{take}
use lib.IntN.{ℤ, pos}
use Rattle.std.specs.Prelude.{Ok, Err}
use Rattle.format.specs.declared.Placed.{Placed}
use Rattle.format.specs.declared.TableKind.{TableKind}
use Rattle.format.specs.declared.TableKind.TheVariants.{First, Second}
use Rattle.format.specs.Tests.{same, differs, ◌and◌}
use Rattle.format.specs.Refusals.{refusal, row, ◌then◌, Verdict}
use Rattle.format.specs.Layouts.{index_offset, index_header_length, entry_count, entry_length, entries}
use Rattle.format.specs.Opening.{header_verdict, index_verdict, entry_verdict, entries_verdict, one_of, one_verdict, table_at, extent_verdict, payload_verdict, table_verdict, open_verdict, Opened, opened, range_of, sector_count}
use Rattle.format.specs.Reading.{outside, entry_number, not_written, unknown_status, pointer_verdict, sector_verdict, address_verdict, read_verdict, locate}
use Rattle.format.specs.Writing.{buffer_verdict, is_second, writable_verdict, Outcome}
use Rattle.format.specs.Creating.{create_verdict, create}
use Rattle.format.specs.Committing.{Appended, arguments_verdict, any_outside, other_than_21, sectors_verdict, disc_verdict, commit_verdict, append, commit}
use Rattle.format.specs.RollingBack.{rollback_verdict, rollback}
use Rattle.format.specs.Exporting.{gap_count, size_verdict, file_verdict, exact_verdict, export_verdict, export_exact, export}
use Rattle.format.specs.Importing.{import_verdict}
use Rattle.format.specs.Flattening.{count_of, written_of, pair_verdict, sizes_verdict, lent_verdict, flatten_verdict}
use Rattle.format.specs.Demands.{FromTo, OpeningNumber, ReadingNumber, CreatingNumber, CommittingNumber, RollingBackNumber, ExportingNumber, ImportingNumber, OverNumber, FlatteningNumber, PlaceFor, at_header, at_index, at_entry, at_table, at_table_entry, at_block, at_none, PlaceOver, in_child, in_parent, EntryOf, AnyEntry, NoSector, Demand1Refusals, SecondRefused, NothingWritten, UnwrittenRefused}
use Rattle.format.specs.Facts.{OpensWith, FlattenArguments}
use Rattle.format.proofs.Tests.{never, same-on, same_true, same-iff, differs_true, differs-iff, and-on, and-true, choose-cases}
use Rattle.format.proofs.Refusals.{row-iff, first_refusal-iff, Says, row-says, off-says, then-says, after-says, first_says, says-refused, says-also, Gives, says-not, row_gives, then-gives, gives_then, answer-passes, answer-refused}
use Rattle.format.proofs.Lists.{how_many-all, how_many-every}
use Rattle.format.proofs.Checks.{OpenOk, open-ok, first-second, item-says, verdict-numbered, address-ok, buffer-ok, arguments-ok, WritableOk, writable-ok, first-known, first_flat}
use Rattle.format.proofs.Buffers.{outcome-refused, outcome-refuses}
use Rattle.format.proofs.Opens.{opens-with}
use Rattle.format.proofs.Exporting.{missing-iff, range-opens, range-count, range-read}
use Rattle.format.proofs.Numbers.{inside-number}
use Rattle.format.proofs.Composing.{numbered}
use Rattle.format.proofs.Importing.{import-refused}
use Rattle.format.proofs.Flattening.{pair-verdict, lent_ok, flatten-is, flatten-refused}
use Rattle.format.proofs.Overlaying.{over-says, read_by, both_by, locate-over}

-- a number of these, at its place
abbrev Listed : List ℕ → ℕ → (ℕ → Type 0) → (ℕ → Type 0) → ℕ → ℕ → Type 0
Listed img o LookedAt N n p = N n × PlaceFor img o LookedAt n p

module _ (img : List ℕ) (o : ℕ) (LookedAt : ℕ → Type 0) where
  -- ---- opening: 1 to 14, 70 to 72
  abbrev Low : ℕ → ℕ → Type 0
  Low = Listed img o LookedAt OpeningNumber

  -- a row of a group whose numbers have one place
  low : (least most p : ℕ) → 1 ≤ least → most ≤ 14 → ((n : ℕ) → FromTo least most n → PlaceFor img o LookedAt n p)
      → (b : Bool) (n : ℕ) → FromTo least most n → Says Low (row b (refusal n p))
  low least most p l m at b n f = row-says Low b (refusal n p) (inl (omega arith), at n f)

  header-says : Says Low (header_verdict img)
  unfolding header_verdict
  header-says =
      let says = low 1 3 0 (omega arith) (omega arith) (λ n f. at_header f) in
      then-says Low _ _ (says _ 1 (omega arith)) (then-says Low _ _ (says _ 2 (omega arith)) (says _ 3 (omega arith)))

  index-says : Says Low (index_verdict img o)
  unfolding index_verdict
  index-says =
      let says = low 4 6 o (omega arith) (omega arith) (λ n f. at_index (inl f)) in
      then-says Low _ _ (says _ 4 (omega arith)) (then-says Low _ _ (says _ 5 (omega arith)) (then-says Low _ _ (says _ 4 (omega arith)) (says _ 6 (omega arith))))

  -- the k entries from number i on, which stands at place p
  entries-say : (k i p : ℕ) → i + k ≡ entry_count img o → p ≡ o + index_header_length + entry_length * i → Says Low (entries_verdict img k p)
  unfolding entries_verdict entry_verdict Says
  entries-say zero i p l e = tt
  entries-say (suc k) i p l e =
      let says = low 7 8 p (omega arith) (omega arith) (λ n f. subst (PlaceFor img o LookedAt n) (sym e) (at_entry i f (omega arith))) in
      then-says Low _ _ (then-says Low _ _ (says _ 7 (omega arith)) (says _ 8 (omega arith))) (entries-say k (suc i) (p + entry_length) (omega arith) (omega arith))

  one-says : (l : List ℕ) → Says Low (one_of o l)
  unfolding one_of Says
  one-says [] = (inl (omega arith), at_index {n = 9} (inr (omega arith)))
  one-says (t ∷ []) = tt
  one-says (t ∷ u ∷ l) = (inl (omega arith), at_index {n = 10} (inr (omega arith)))

  extent-says : (k : TableKind) (t : ℕ) → Says Low (extent_verdict img k t)
  unfolding extent_verdict Says
  extent-says First t = tt
  extent-says Second t = then-says Low _ _ (says _ 70 (omega arith)) (then-says Low _ _ (says _ 71 (omega arith)) (says _ 72 (omega arith)))
    where
      says : (b : Bool) (n : ℕ) → FromTo 70 72 n → Says Low (row b (refusal n 0))
      says b n f = row-says Low b (refusal n 0) (inr f, at_none (inr (inr (inr (omega arith)))))

  table-says : (k : TableKind) → Says Low (table_verdict img k (table_at img o))
  unfolding table_verdict payload_verdict
  table-says k =
      let says = low 11 14 (table_at img o) (omega arith) (omega arith) (λ n f. at_table f) in
      then-says Low _ _ (says _ 11 (omega arith))
      (then-says Low _ _ (says _ 13 (omega arith))
      (then-says Low _ _ (extent-says k (table_at img o))
      (then-says Low _ _ (says _ 12 (omega arith)) (then-says Low _ _ (says _ 11 (omega arith)) (says _ 14 (omega arith))))))

  open-says : Says Low (open_verdict img o)
  unfolding open_verdict one_verdict
  open-says =
      then-says Low _ _ header-says
      (then-says Low _ _ index-says
      (then-says Low _ _ (entries-say (entry_count img o) 0 (o + index_header_length) (omega arith) (omega arith)) (then-says Low _ _ (one-says _) (table-says _))))

  -- the same of a call that gives other numbers too
  open-also : (N : ℕ → Type 0) → Says (Listed img o LookedAt (λ n. OpeningNumber n ⊎ N n)) (open_verdict img o)
  open-also N = says-also _ (λ n p s. (inl s.0, s.1)) open-says

  -- ---- a table entry's sector: 21 to 27, and what the row of 73 says
  sector-says : (N : ℕ → Type 0) → ((n : ℕ) → FromTo 21 27 n → N n) → (i : ℕ) → LookedAt i
      → Says (Listed img o LookedAt N) (row (unknown_status img (opened img o) i) (refusal 73 0))
      → Says (Listed img o LookedAt N) (sector_verdict img (entries img o) (opened img o) i)
  unfolding sector_verdict pointer_verdict
  sector-says N among i h s =
      then-says _ _ _ (row-says _ _ (refusal 21 0) (among 21 (omega arith), at_none (inl (omega arith))))
      (then-says _ _ _ s
      (then-says _ _ _ (row-says _ _ (refusal 22 _) (among 22 (omega arith), at_table_entry i h)) (item-says _ img _ (λ m l k. (among m (omega arith), at_block i (l, k) h)))))

  -- ---- the arguments: 30 to 35
  argument : (N : ℕ → Type 0) (b : Bool) (n : ℕ) → FromTo 30 35 n → N n → Says (Listed img o LookedAt N) (row b (refusal n 0))
  argument N b n f h = row-says _ b (refusal n 0) (h, at_none (inr (inl f)))

  buffer-says : (N : ℕ → Type 0) → N 31 → N 32 → (buffer : List ℕ) (used : ℕ) → Says (Listed img o LookedAt N) (buffer_verdict buffer used)
  unfolding buffer_verdict
  buffer-says N p q buffer used = then-says _ _ _ (argument N _ 31 (omega arith) p) (argument N _ 32 (omega arith) q)

  arguments-say : (N : ℕ → Type 0) → ((n : ℕ) → FromTo 30 35 n → N n) → (buffer : List ℕ) (used : ℕ) (addresses : List ℤ) (size : ℕ) (sectors : List ℕ)
      → Says (Listed img o LookedAt N) (arguments_verdict buffer used addresses size sectors)
  unfolding arguments_verdict
  arguments-say N among buffer used addresses size sectors =
      then-says _ _ _ (buffer-says N (among 31 (omega arith)) (among 32 (omega arith)) buffer used)
      (then-says _ _ _ (argument N _ 30 (omega arith) (among 30 (omega arith)))
      (then-says _ _ _ (argument N _ 33 (omega arith) (among 33 (omega arith))) (argument N _ 34 (omega arith) (among 34 (omega arith)))))

-- but for 21
other-says : (P : ℕ → ℕ → Type 0) (v : Verdict) → Says (λ n p. n ≢ 21 → P n p) v → Says P (other_than_21 v)
unfolding other_than_21 Says
other-says P (Ok tt) k = tt
other-says P (Err r) k = choose-cases (Says P) _ _ _ (λ e. tt) (λ e. k (same-iff.0 e))

-- a range but for its least
but-least : {least most : ℕ} (n : ℕ) → FromTo least most n → n ≢ least → FromTo (suc least) most n
but-least n f d = (⊎_elim (λ e. absurd (d (sym e))) (λ k. k) (eq-or-lt_of_le f.0), f.1)

-- the parent's numbers, with 100 added
with-100 : (n : ℕ) → ReadingNumber n → n ≢ 20 → n ≢ 21 → FromTo 101 114 (100 + n) ⊎ (FromTo 122 127 (100 + n) ⊎ FromTo 170 173 (100 + n))
with-100 n (inl (inl f)) c d = inl (omega (arith, f))
with-100 n (inl (inr f)) c d = inr (inr (omega (arith, f)))
with-100 n (inr (inl f)) c d = inr (inl (let h = but-least n (but-least n f c) d in omega (arith, h)))
with-100 n (inr (inr f)) c d = inr (inr (omega (arith, f)))

-- ---- the verdicts of the calls
read_looks : (img : List ℕ) (o : ℕ) (a : ℤ) (LookedAt : ℕ → Type 0) → (outside (opened img o) a ≡ false → LookedAt (entry_number (opened img o) a))
    → Says (Listed img o LookedAt ReadingNumber) (read_verdict img o a)
unfolding read_verdict address_verdict
read_looks img o a LookedAt h =
    then-says _ _ _ (open-also img o _ _)
    (after-says _ _ _ (row-says _ _ (refusal 20 0) (inr (inl (omega arith)), at_none (inl (omega arith))))
    (λ w. sector-says img o _ ReadingNumber (λ n f. inr (inl (omega arith))) _ (h ((row-iff (refusal 20 0) Iff.rfl).0 w))
    (row-says _ _ (refusal 73 0) (inr (inr refl), at_none (inr (inr (inr (omega arith))))))))

pub read-says : (img : List ℕ) (o : ℕ) (a : ℤ) → Says (Listed img o (λ n. n ≡ entry_number (opened img o) a) ReadingNumber) (read_verdict img o a)
read-says img o a = read_looks img o a _ (λ h. refl)

-- of a child over its parent
over_reads : (child parent : List ℕ) (a : ℤ) → Says (λ n p. OverNumber n × PlaceOver child parent (EntryOf child a) (EntryOf parent a) n p) (both_by child parent a)
over_reads child parent a =
    over-says _ (inl (inr (inl (omega arith))), in_child (at_none {n = 21} (inl (omega arith)))) (read_by child a) (read_by parent a)
    (says-also _ (λ n p s d. (inl s.0, in_child s.1)) (read-says child _ a))
    (says-also _ (λ n p s c d. (inr (with-100 n s.0 c d), in_parent s.1)) (read-says parent _ a))

create-says : (buffer : List ℕ) (count : ℕ) (application : List ℕ) → Says (λ n p. CreatingNumber n × (p ≡ 0)) (create_verdict buffer count application)
unfolding create_verdict
create-says buffer count application =
    then-says _ _ _ (row-says _ _ (refusal 31 0) (inl (omega arith), refl))
    (then-says _ _ _ (row-says _ _ (refusal 30 0) (inl (omega arith), refl))
    (then-says _ _ _ (row-says _ _ (refusal 33 0) (inr (inl refl), refl)) (row-says _ _ (refusal 35 0) (inr (inr refl), refl))))

-- 74, of a call that gives it
writable-says : (img : List ℕ) (o : ℕ) (LookedAt : ℕ → Type 0) (N : ℕ → Type 0) → Says (Listed img o LookedAt (λ n. OpeningNumber n ⊎ ((n ≡ 74) ⊎ N n))) (writable_verdict img o)
unfolding writable_verdict
writable-says img o LookedAt N = then-says _ _ _ (open-also img o LookedAt _) (row-says _ _ (refusal 74 0) (inr (inl refl), at_none (inr (inr (inr (omega arith))))))

-- the table entries of the disc
module _ (img : List ℕ) (o : ℕ) where
  abbrev OnDisc : ℕ → Type 0
  OnDisc a = a < (opened img o).count

  abbrev Committing : ℕ → ℕ → Type 0
  Committing = Listed img o OnDisc CommittingNumber

  disc-says : (addresses : List ℤ) → Says Committing (disc_verdict img o addresses)
  unfolding disc_verdict sectors_verdict
  disc-says addresses =
      after-says Committing _ _ (writable-says img o OnDisc _)
      (λ w.
      then-says Committing _ _ (row-says Committing _ (refusal 20 0) (inr (inr (inl refl)), at_none (inl (omega arith))))
      (first_says Committing _ _ _ 0 (omega arith) (λ i h.
      other-says Committing _
      (says-also _ (λ n p s d. (inr (inr (inr (inl (but-least n s.0 d)))), s.1))
      (sector-says img o OnDisc (FromTo 21 27) (λ n f. f) i h (off-says _ _ _ (first-known img (opened img o) i ((writable-ok img o).0 w).first)))))))

commit-says : (buffer : List ℕ) (used : ℕ) (addresses : List ℤ) (size : ℕ) (sectors : List ℕ) (new : Appended)
    → Says (Committing (take used buffer) (index_offset (take used buffer))) (commit_verdict buffer used addresses size sectors new)
unfolding commit_verdict
commit-says buffer used addresses size sectors new =
    then-says _ _ _ (arguments-say _ _ _ _ last buffer used addresses size sectors)
    (then-says _ _ _ (disc-says _ _ addresses) (argument _ _ _ _ _ 35 (omega arith) (last 35 (omega arith))))
  where
    last : (n : ℕ) → FromTo 30 35 n → CommittingNumber n
    last n f = inr (inr (inr (inr f)))

rollback-says : (buffer : List ℕ) (used offset : ℕ)
    → Says (Listed (take used buffer) offset NoSector RollingBackNumber) (rollback_verdict buffer used offset)
unfolding rollback_verdict
rollback-says buffer used offset =
    then-says _ _ _ (buffer-says _ _ _ _ (inr (inr (omega arith))) (inr (inr (omega arith))) buffer used) (writable-says _ offset _ _)

-- every sector of the disc, and what is behind them: 40 and 41, by 9/13's rule 21 before them
module _ (img : List ℕ) (o : ℕ) (out : List ℕ) where
  abbrev Exporting : ℕ → ℕ → Type 0
  Exporting = Listed img o (OnDisc img o) ExportingNumber

  on-disc-says : (i : ℕ) → OnDisc img o i → Says Exporting (sector_verdict img (entries img o) (opened img o) i)
  on-disc-says i h =
      sector-says img o (OnDisc img o) ExportingNumber (λ n f. inr (inl f)) i h (row-says Exporting _ (refusal 73 0) (inr (inr (inl refl)), at_none (inr (inr (inr (omega arith))))))

  file-says : Says (λ n p. FromTo 40 41 n × (p ≡ 0)) (file_verdict img (opened img o) out)
  unfolding file_verdict size_verdict
  file-says =
      then-says _ _ _ (first_says _ _ (opened img o).count _ 0 (omega arith) (λ i h. row-says _ _ (refusal 40 0) (omega arith, refl)))
      (row-says _ _ (refusal 41 0) (omega arith, refl))

  file-also : Says Exporting (file_verdict img (opened img o) out)
  file-also = says-also _ (λ n p (f, e). (inr (inr (inr f)), rw e (at_none {n = n} (inr (inr (inl (omega arith))))))) file-says

  exact-says : Says Exporting (exact_verdict img o out)
  unfolding exact_verdict
  exact-says =
      then-says Exporting _ _ (open-also img o (OnDisc img o) _)
      (then-says Exporting _ _ (first_says Exporting _ (opened img o).count _ 0 (omega arith) on-disc-says) file-also)

  export-says : Says Exporting (export_verdict img o out)
  unfolding export_verdict sectors_verdict
  export-says =
      then-says Exporting _ _ (open-also img o (OnDisc img o) _)
      (then-says Exporting _ _
      (first_says Exporting _ (opened img o).count _ 0 (omega arith) (λ i h. other-says Exporting _ (says-also _ (λ n p s d. s) (on-disc-says i h))))
      (then-says Exporting _ _ (row-says Exporting _ (refusal 21 0) (inr (inl (omega arith)), at_none (inl (omega arith)))) file-also))

import-says : (buffer file : List ℕ) (size : ℕ) (application : List ℕ) (full : Bool)
    → Says (λ n p. ImportingNumber n × (p ≡ 0)) (import_verdict buffer file size application then row full (refusal 35 0))
unfolding import_verdict
import-says buffer file size application full =
    then-says _ _ _
    (then-says _ _ _ (row-says _ _ (refusal 31 0) (inl (omega arith), refl))
    (then-says _ _ _ (row-says _ _ (refusal 30 0) (inl (omega arith), refl))
    (then-says _ _ _ (row-says _ _ (refusal 42 0) (inr (inl refl), refl)) (row-says _ _ (refusal 33 0) (inr (inr (inl refl)), refl)))))
    (row-says _ _ (refusal 35 0) (inr (inr (inr refl)), refl))

-- a child's own sectors, whose table is of the first kind: 22 to 27; then the parent's; 31, 33, 74, 40, 30 and 35
module _ (child parent : List ℕ) where
  abbrev Flattening : ℕ → ℕ → Type 0
  Flattening n p = FlatteningNumber n × PlaceOver child parent (AnyEntry child) (AnyEntry parent) n p

  own-says : WritableOk child (index_offset child) → (n : ℕ) → n < count_of child
      → Says (Listed child (index_offset child) (AnyEntry child) (FromTo 21 27)) (read_by child (pos n))
  own-says w n h =
      let m = numbered (opened child (index_offset child)) (first_flat child (index_offset child) w.first).0 n h in
      rw (verdict-numbered child (index_offset child) w.opens (pos n) n m)
      (sector-says child _ (AnyEntry child) (FromTo 21 27) (λ i f. f) n h (off-says _ _ _ (first-known child (opened child (index_offset child)) n w.first)))

  pair-says : WritableOk child (index_offset child) → Says Flattening (pair_verdict child parent)
  pair-says w =
      rw (pair-verdict child parent)
      (first_says Flattening _ (count_of child) _ 0 (omega arith) (λ n h.
      other-says Flattening _
      (over-says (λ i p. i ≢ 21 → Flattening i p) (λ d. absurd (d refl)) (read_by child (pos n)) (read_by parent (pos n))
      (says-also _ (λ i p s d c. (inr (inr (inl (but-least i s.0 d))), in_child s.1)) (own-says w n h))
      (says-also _ (λ i p s c d e. (inr (inr (inr (inl (with-100 i s.0 c d)))), in_parent s.1))
      (read_looks parent _ (pos n) (AnyEntry parent) (λ q. (inside-number _ (pos n) q).inside))))))

  -- a number without a place
  none-says : (b : Bool) (n : ℕ) → FromTo 30 35 n ⊎ FromTo 40 42 n → FlatteningNumber n → Says Flattening (row b (refusal n 0))
  none-says b n f h = row-says Flattening b (refusal n 0) (h, in_child (at_none {n = n} (inr (⊎_elim inl (λ g. inr (inl g)) f))))

  late : {n : ℕ} → FromTo 30 31 n ⊎ ((n ≡ 33) ⊎ ((n ≡ 35) ⊎ (n ≡ 40))) → FlatteningNumber n
  late h = inr (inr (inr (inr h)))

  flatten-says : (buffer application : List ℕ) (full : Bool) → Says Flattening (flatten_verdict buffer child parent application then row full (refusal 35 0))
  unfolding flatten_verdict lent_verdict sizes_verdict
  flatten-says buffer application full =
      then-says Flattening _ _
      (then-says Flattening _ _
      (then-says Flattening _ _ (none-says _ 31 (inl (omega arith)) (late (inl (omega arith)))) (none-says _ 33 (inl (omega arith)) (late (inr (inl refl)))))
      (after-says Flattening _ _ (says-also _ (λ n p s. (s.0, in_child s.1)) (writable-says child (index_offset child) (AnyEntry child) _))
      (λ w.
      then-says Flattening _ _ (pair-says ((writable-ok child (index_offset child)).0 w))
      (then-says Flattening _ _ (none-says _ 40 (inr (omega arith)) (late (inr (inr (inr refl))))) (none-says _ 30 (inl (omega arith)) (late (inl (omega arith))))))))
      (none-says _ 35 (inl (omega arith)) (late (inr (inr (inl refl)))))

pub demand-1-refusals : Demand1Refusals
unfolding sector_count locate create commit append rollback export_exact export
demand-1-refusals = record {
  counting = λ img r e. says-refused _ _ r (open-says img _ NoSector) (answer-refused _ _ r e);
  locating = λ img a r e. says-refused _ _ r (read-says img _ a) (answer-refused _ _ r e);
  creating = λ buffer count application major minor mediaType creationTime lastWrittenTime r e. says-refused _ _ r (create-says buffer count application) (outcome-refused _ _ _ _ r e).0;
  committing = λ buffer used addresses size sectors time r e. says-refused _ _ r (commit-says buffer used addresses size sectors _) (outcome-refused _ _ _ _ r e).0;
  rolling_back = λ buffer used offset time r e. says-refused _ _ r (rollback-says buffer used offset) (outcome-refused _ _ _ _ r e).0;
  exporting_exactly = λ img out r e. says-refused _ _ r (exact-says img _ out) (outcome-refused _ _ _ _ r e).0;
  exporting = λ img out r e. says-refused _ _ r (export-says img _ out) (outcome-refused _ _ _ _ r e).0;
  importing = λ buffer file size application major minor mediaType creationTime lastWrittenTime r e.
      says-refused _ _ r (import-says buffer file size application _) (import-refused buffer file size application major minor mediaType creationTime lastWrittenTime r e).0;
  locating_over = λ child parent a r e. says-refused _ _ r (over_reads child parent a) (answer-refused _ _ r (sym (locate-over child parent a) ∙ e));
  flattening = λ buffer child parent application major minor mediaType creationTime lastWrittenTime r e.
      says-refused _ _ r (flatten-says child parent buffer application _) (flatten-refused buffer child parent application major minor mediaType creationTime lastWrittenTime r e).0;
}

-- ---- a number that is none of a verdict's
apart_from : (m : ℕ) {P : ℕ → ℕ → Type 0} (v : Verdict) (N : ℕ → Type 0) → ((n p : ℕ) → P n p → N n) → ¬ N m → Says P v → ¬ Gives m v
apart_from m v N f apart s = says-not m v (says-also v (λ n p k e. apart (subst N e (f n p k))) s)

pub open-not : (m : ℕ) → ¬ OpeningNumber m → (img : List ℕ) (o : ℕ) → ¬ Gives m (open_verdict img o)
open-not m apart img o = apart_from m _ OpeningNumber (λ n p k. k.0) apart (open-says img o NoSector)

-- ---- 74: no check before it gives it, and none behind it
abbrev Not-74 : ℕ → ℕ → Type 0
Not-74 n p = n ≢ 74

second-iff : (k : TableKind) → (is_second k ≡ true) ↔ (k ≡ Second)
unfolding is_second
second-iff First = (λ h. absurd (true≢false (sym h)), λ h. absurd (first-second h))
second-iff Second = (λ h. refl, λ h. refl)

module _ (img : List ℕ) (o : ℕ) where
  writable-74 : (writable_verdict img o ≡ Err (refusal 74 0)) ↔ OpensWith img o Second
  unfolding writable_verdict
  writable-74 =
      let w = Iff.trans (row_gives (is_second (opened img o).kind) (refusal 74 0)) (second-iff _) in
      Iff.trans (then-gives (open_verdict img o) _ (refusal 74 0) (open-not 74 (⊎_elim (λ f. omega arith) (λ f. omega arith)) img o)) (Iff.trans (Iff.and Iff.rfl w) (opens-with img o Second))

  -- 20, and the sectors' numbers
  rest-not-74 : (addresses : List ℤ) → ¬ Gives 74 (row (any_outside (opened img o) addresses) (refusal 20 0) then sectors_verdict img (entries img o) (opened img o))
  unfolding sectors_verdict
  rest-not-74 addresses =
      says-not 74 _
      (then-says Not-74 _ _ (row-says Not-74 _ (refusal 20 0) (λ e. omega arith))
      (first_says Not-74 _ (opened img o).count _ 0 (omega arith) (λ i h.
      other-says Not-74 _
      (says-also _ (λ n p s d. s.0)
      (sector-says img o (λ n. Unit {0}) (λ n. n ≢ 74) (λ n f e. omega arith) i tt (row-says _ _ (refusal 73 0) ((λ e. omega arith), at_none (inr (inr (inr (omega arith)))))))))))

  disc-74 : (addresses : List ℤ) → (disc_verdict img o addresses ≡ Err (refusal 74 0)) ↔ OpensWith img o Second
  unfolding disc_verdict
  disc-74 addresses = Iff.trans (gives_then _ _ (refusal 74 0) (rest-not-74 addresses)) writable-74

-- flattening: 31 and 33 before it; the pair's, 40, 30 and 35 behind it
over-not-74 : (n : ℕ) → OverNumber n → n ≢ 74
over-not-74 n h e =
    ⊎_elim (⊎_elim (⊎_elim (λ f. omega (arith, f)) (λ f. omega (arith, f))) (⊎_elim (λ f. omega (arith, f)) (λ f. omega (arith, f))))
    (⊎_elim (λ f. omega (arith, f)) (⊎_elim (λ f. omega (arith, f)) (λ f. omega (arith, f)))) h

flatten-74 : (buffer child parent application : List ℕ) (full : Bool)
    → ((flatten_verdict buffer child parent application then row full (refusal 35 0)) ≡ Err (refusal 74 0)) ↔ (FlattenArguments buffer application × OpensWith child (index_offset child) Second)
unfolding flatten_verdict lent_verdict sizes_verdict
flatten-74 buffer child parent application full =
    let pairs : Says Not-74 (pair_verdict child parent) =
    rw (pair-verdict child parent)
    (first_says Not-74 _ (count_of child) _ 0 (omega arith) (λ n h. other-says Not-74 _ (says-also _ (λ i p s d. over-not-74 i s.0) (over_reads child parent (pos n))))) in
    let behind : ¬ Gives 74 (pair_verdict child parent then sizes_verdict (count_of child) (written_of child parent)) =
    says-not 74 _ (then-says Not-74 _ _ pairs (then-says Not-74 _ _ (row-says Not-74 _ (refusal 40 0) (λ e. omega arith)) (row-says Not-74 _ (refusal 30 0) (λ e. omega arith)))) in
    let lent : ¬ Gives 74 (lent_verdict buffer application) =
    says-not 74 _ (then-says Not-74 _ _ (row-says Not-74 _ (refusal 31 0) (λ e. omega arith)) (row-says Not-74 _ (refusal 33 0) (λ e. omega arith))) in
    Iff.trans (gives_then _ _ (refusal 74 0) (says-not 74 _ (row-says Not-74 full (refusal 35 0) (λ e. omega arith))))
    (Iff.trans (then-gives _ _ (refusal 74 0) lent)
    (Iff.and (lent_ok buffer application) (Iff.trans (gives_then _ _ (refusal 74 0) behind) (writable-74 child (index_offset child)))))

pub second-refused : SecondRefused
unfolding commit append commit_verdict rollback rollback_verdict
second-refused = record {
  committing = λ buffer used addresses size sectors time.
      let u : ¬ Gives 74 (arguments_verdict buffer used addresses size sectors) = apart_from 74 _ (FromTo 30 35) (λ n p k. k.0) (λ f. omega arith) (arguments-say [] 0 NoSector _ (λ n f. f) buffer used addresses size sectors) in
      Iff.trans (outcome-refuses _ _ _ _ (refusal 74 0))
      (Iff.trans (then-gives _ _ (refusal 74 0) u)
      (Iff.and (arguments-ok buffer used addresses size sectors) (Iff.trans (gives_then _ _ (refusal 74 0) (says-not 74 _ (row-says _ _ (refusal 35 0) (λ e. omega arith)))) (disc-74 _ _ addresses))));
  rolling_back = λ buffer used offset time.
      let u : ¬ Gives 74 (buffer_verdict buffer used) = apart_from 74 _ (FromTo 30 35) (λ n p k. k.0) (λ f. omega arith) (buffer-says [] 0 NoSector _ (omega arith) (omega arith) buffer used) in
      Iff.trans (outcome-refuses _ _ _ _ (refusal 74 0)) (Iff.trans (then-gives _ _ (refusal 74 0) u) (Iff.and (buffer-ok buffer used) (writable-74 _ offset)));
  flattening = λ buffer child parent application major minor mediaType creationTime lastWrittenTime.
      subst (λ (w : Outcome Placed). (w.result ≡ Err (refusal 74 0)) ↔ (FlattenArguments buffer application × OpensWith child (index_offset child) Second))
      (sym (flatten-is buffer child parent application major minor mediaType creationTime lastWrittenTime))
      (Iff.trans (outcome-refuses _ _ _ _ (refusal 74 0)) (flatten-74 buffer child parent application _));
}

-- ---- 21, by 9/13's rule: no check before it gives it, and none behind it
nothing-test : (count gaps : ℕ) → ((differs count 0 and same gaps count) ≡ true) ↔ ((count ≢ 0) × (gaps ≡ count))
nothing-test count gaps = (
  (λ h. let k = and-on _ _ h in ((λ z. never k.0 (differs-iff.1 z)), same-on _ _ k.1)),
  λ k. and-true _ _ (differs_true _ _ k.0) (same_true _ _ k.1),
)

module _ (img out : List ℕ) where
  abbrev i : ℕ
  i = index_offset img

  abbrev u : Opened
  u = opened img i

  export-21 : (export_verdict img i out ≡ Err (refusal 21 0))
      ↔ (OpenOk img i × ((sectors_verdict img (entries img i) u ≡ Ok tt) × ((u.count ≢ 0) × (gap_count img u ≡ u.count))))
  unfolding export_verdict sectors_verdict
  export-21 =
      let sectors : ¬ Gives 21 (sectors_verdict img (entries img i) u) =
      says-not 21 _ (first_says _ _ u.count _ 0 (omega arith) (λ n h. other-says _ _ (says-also _ (λ n p s d. d) (on-disc-says img i out n h)))) in
      Iff.trans (then-gives _ _ (refusal 21 0) (open-not 21 (⊎_elim (λ f. omega arith) (λ f. omega arith)) img i))
      (Iff.and (open-ok img i)
      (Iff.trans (then-gives _ _ (refusal 21 0) sectors)
      (Iff.and Iff.rfl
      (Iff.trans (gives_then _ _ (refusal 21 0) (apart_from 21 _ (FromTo 40 41) (λ n p k. k.0) (λ f. omega arith) (file-says img i out)))
      (Iff.trans (row_gives _ (refusal 21 0)) (nothing-test _ _))))))

  unwritten-forth : (export img out).result ≡ Err (refusal 21 0) → NothingWritten img
  unfolding export sector_count range_of gap_count
  unwritten-forth e =
      let k = export-21.0 ((outcome-refuses _ _ _ _ (refusal 21 0)).0 e) in
      let counted : sector_count img ≡ Ok (range_of u) = answer-passes _ _ ((open-ok img i).1 k.0) in
      record {
        range = range_of u;
        sectors = counted;
        some = k.1.1.0;
        each = λ n h. sym (range-read img (range_of u) counted n h) ∙ (missing-iff img i n).0 (how_many-every _ _ 0 k.1.1.1 n (omega arith) (omega arith));
      }

  unwritten-back : NothingWritten img → (export img out).result ≡ Err (refusal 21 0)
  unfolding export gap_count sectors_verdict
  unwritten-back n =
      let c : u.count ≡ n.range.count = range-count img n.range n.sectors in
      let each : (m : ℕ) → m < u.count → not_written img u m ≡ true =
      λ m h. (missing-iff img i m).1 (range-read img n.range n.sectors m h ∙ n.each m (omega arith)) in
      (outcome-refuses _ _ _ _ (refusal 21 0)).1
      (export-21.1 (
        range-opens img n.range n.sectors,
        (
          (first_refusal-iff u.count _ 0 (omega arith) (λ m h. address-ok img (entries img i) u m)).1 (λ m l h. inl (each m h)),
          ((λ z. n.some (sym c ∙ z)), how_many-all _ _ 0 (λ m l h. each m (omega arith))),
        ),
      ))

pub unwritten-refused : UnwrittenRefused
unwritten-refused img out = (unwritten-forth img out, unwritten-back img out)
