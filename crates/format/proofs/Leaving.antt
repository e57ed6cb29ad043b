-- What a call leaves as it was: all where it is refused; where it is accepted, all but what it is to write.
use mathlib.Core.List.{List, [], ◌∷◌}
use mathlib.Core.Logic.{inl, inr, ⊎_elim}
use mathlib.Core.Path.{◌≡◌, refl, ap, ◌∙◌}
use Prim.Native.Nat.{ℕ, ◌+◌, ◌≤◌}
use native.Mathlib.Omega.{arith}
use lib.ListN.{length, take}
use lib.Seq.{length-take-le}
use Rattle.fields.specs.Bytes.{overwrite}
use Rattle.fields.proofs.Overwrite.{length-overwrite, get_or-off}
use Rattle.fields.proofs.Holds.{holds-overwrite}
use Rattle.format.specs.declared.Flat.{Flat}
use Rattle.format.specs.declared.Placed.{Placed}
use Rattle.format.specs.Layouts.{header_length, application_length, index_offset}
use Rattle.format.specs.Opening.{opened}
use Rattle.format.specs.Writing.{most_sectors}
use Rattle.format.specs.Creating.{created_index_at, created_used, created_bytes, create}
use Rattle.format.specs.Committing.{entry_numbers, Appended, appended, index_start, used_after, appended_bytes, append, commit}
use Rattle.format.specs.RollingBack.{rollback}
use Rattle.format.specs.Exporting.{flat_file, export_exact, export}
use Rattle.format.specs.Flattening.{count_of, Written, written_of}
use Rattle.format.specs.Demands.{Demand1Unchanged, Leaves, HeaderSet, WritesOnly}
use Rattle.format.proofs.Checks.{create-ok, created-used, commit-ok, rollback-ok}
use Rattle.format.proofs.Buffers.{outcome-accepted, outcome-refused, length-set_header, set_header-elsewhere, header-set}
use Rattle.format.proofs.Appended.{appended-total}
use Rattle.format.proofs.Created.{length-new, created-header}
use Rattle.format.proofs.Composing.{Composable, composed_used, composed_index, composed_buffer, composed_image, image-length, buffer-front, made-long}
use Rattle.format.proofs.Importing.{composable, import-accepted, import-refused}
use Rattle.format.proofs.Flattening.{Flattenable, flat_end, flat_buffer, flatten-accepted, flatten-refused}
use Rattle.format.proofs.Flattening as flatten

pub demand-1-unchanged : Demand1Unchanged
unfolding create commit append rollback export_exact export
demand-1-unchanged = record {
  creating = λ buffer count application major minor mediaType creationTime lastWrittenTime r e. (outcome-refused _ _ _ _ r e).1;
  committing = λ buffer used addresses size sectors time r e. (outcome-refused _ _ _ _ r e).1;
  rolling_back = λ buffer used offset time r e. (outcome-refused _ _ _ _ r e).1;
  exporting_exactly = λ img out r e. (outcome-refused _ _ _ _ r e).1;
  exporting = λ img out r e. (outcome-refused _ _ _ _ r e).1;
  importing = λ buffer file size application major minor mediaType creationTime lastWrittenTime r e.
      (import-refused buffer file size application major minor mediaType creationTime lastWrittenTime r e).1;
  flattening = λ buffer child parent application major minor mediaType creationTime lastWrittenTime r e.
      (flatten-refused buffer child parent application major minor mediaType creationTime lastWrittenTime r e).1;
}

-- all from the end of what stands at the front on
behind : (out front : List ℕ) (n : ℕ) → length front ≡ n → Leaves out (overwrite out 0 front) (λ i. n ≤ i)
behind out front n e = record { same_length = length-overwrite out 0 front; bytes = λ i h. get_or-off out 0 front i (inr (omega arith)) }

-- a creation: all from its end on, and the header's two fields are set
created-leaves : (buffer : List ℕ) (count : ℕ) (application : List ℕ) (major minor mediaType creationTime lastWrittenTime : ℕ) → length application ≡ application_length
    → count ≤ most_sectors → created_used count ≤ length buffer
    → let left = overwrite buffer 0 (created_bytes count application major minor mediaType creationTime lastWrittenTime) in
    Leaves buffer left (λ i. created_used count ≤ i) × HeaderSet left (created_index_at count) lastWrittenTime
created-leaves buffer count application major minor mediaType creationTime lastWrittenTime sized few room =
    let new : List ℕ = created_bytes count application major minor mediaType creationTime lastWrittenTime in
    let l : length new ≡ created_used count = length-new count application major minor mediaType creationTime lastWrittenTime sized in (
      behind buffer new _ l,
      created-header count application major minor mediaType creationTime lastWrittenTime sized _ (holds-overwrite buffer 0 new (omega arith)) few,
    )

-- a creation and a commit (Composing): all from their end on, and the header's two fields are set
module _ (buffer : List ℕ) (count : ℕ) (numbers : List ℕ) (size : ℕ) (sectors application : List ℕ) (major minor mediaType creationTime lastWrittenTime : ℕ)
    (k : Composable buffer count numbers size sectors application) where
  abbrev ends : ℕ
  ends = composed_used buffer count numbers size sectors application major minor mediaType creationTime lastWrittenTime

  abbrev left : List ℕ
  left = composed_buffer buffer count numbers size sectors application major minor mediaType creationTime lastWrittenTime

  composed-leaves : ends ≤ length buffer
      → Leaves buffer left (λ i. ends ≤ i) × HeaderSet left (composed_index buffer count numbers size sectors application major minor mediaType creationTime lastWrittenTime) lastWrittenTime
  composed-leaves room =
      let image : List ℕ = composed_image buffer count numbers size sectors application major minor mediaType creationTime lastWrittenTime in (
        rw (buffer-front _ _ _ _ _ _ _ _ _ _ _ k room) (behind buffer image _ (image-length _ _ _ _ _ _ _ _ _ _ _ k)),
        header-set _ _ lastWrittenTime (made-long _ _ _ _ _ _ _ _ _ _ _ k room),
      )

-- flattening: the creation alone, or both
module _ (buffer child parent application : List ℕ) (major minor mediaType creationTime lastWrittenTime : ℕ) (k : Flattenable buffer child parent application) where
  abbrev end : List Written → Placed
  end = flat_end buffer child parent application major minor mediaType creationTime lastWrittenTime

  abbrev flat : List Written → List ℕ
  flat = flat_buffer buffer child parent application major minor mediaType creationTime lastWrittenTime

  flatten-leaves : (ws : List Written) → written_of child parent ≡ ws → (end ws).used ≤ length buffer
      → Leaves buffer (flat ws) (λ i. (end ws).used ≤ i) × HeaderSet (flat ws) (end ws).index.0 lastWrittenTime
  unfolding flat_end flat_buffer
  flatten-leaves [] e room = created-leaves buffer (count_of child) application major minor mediaType creationTime lastWrittenTime k.named k.most room
  flatten-leaves (w ∷ ws) e room = composed-leaves _ _ _ _ _ _ _ _ _ _ _ (flatten.composable k w ws e) room

pub writes-only : WritesOnly
unfolding create commit append rollback export_exact export
writes-only = record {
  creating = λ buffer count application major minor mediaType creationTime lastWrittenTime p e.
      let r = outcome-accepted _ _ _ _ p e in
      let k = (create-ok buffer count application).0 r.passes in
      rw (r.buffer, ← r.answer)
      (created-leaves buffer count application major minor mediaType creationTime lastWrittenTime k.sized k.few (rw (created-used count) k.room));
  committing = λ buffer used addresses size sectors time p e.
      let r = outcome-accepted _ _ _ _ p e in
      let img : List ℕ = take used buffer in
      let k = (commit-ok buffer used addresses size sectors _).0 r.passes in
      let new : Appended = appended img (index_offset img) (entry_numbers (opened img (index_offset img)) addresses) size sectors in
      let run : List ℕ = appended_bytes new in
      let u : used_after used new ≡ p.used = ap (λ (q : Placed). q.used) r.answer in
      let i : index_start used new ≡ p.index.0 = ap (λ (q : Placed). q.index.0) r.answer in
      let t : used + length run ≡ used_after used new = appended-total used new in
      let l : length (overwrite buffer used run) ≡ length buffer = length-overwrite buffer used run in
      let low : header_length ≤ length (overwrite buffer used run) = omega (arith, k.disc.sound.opens.header.long, length-take-le used buffer k.arguments.buffer_ok.inside, k.arguments.buffer_ok.inside) in
      rw r.buffer (
        record {
          same_length = length-set_header (overwrite buffer used run) (index_start used new) time ∙ l;
          bytes = λ j (h, w). set_header-elsewhere (overwrite buffer used run) (index_start used new) time j h ∙ get_or-off buffer used run j (⊎_elim inl (λ b. inr (omega arith)) w);
        },
        rw (← i) (header-set (overwrite buffer used run) (index_start used new) time low),
      );
  rolling_back = λ buffer used offset time p e.
      let r = outcome-accepted _ _ _ _ p e in
      let k = (rollback-ok buffer used offset).0 r.passes in
      let low : header_length ≤ length buffer = omega (arith, k.writable.opens.header.long, length-take-le used buffer k.buffer_ok.inside, k.buffer_ok.inside) in
      rw r.buffer
      (record { same_length = length-set_header buffer offset time; bytes = set_header-elsewhere buffer offset time }, header-set buffer offset time low);
  exporting_exactly = λ img out n e.
      let r = outcome-accepted _ _ _ _ n e in
      rw r.buffer (behind out (flat_file img (opened img (index_offset img))) n r.answer);
  exporting = λ img out n e.
      let r = outcome-accepted _ _ _ _ n e in
      rw r.buffer (behind out (flat_file img (opened img (index_offset img))) _ (ap (λ (m : Flat). m.length) r.answer));
  importing = λ buffer file size application major minor mediaType creationTime lastWrittenTime p e.
      let i = import-accepted buffer file size application major minor mediaType creationTime lastWrittenTime p e in
      rw (← i.answer, i.buffer-is) (composed-leaves _ _ _ _ _ _ _ _ _ _ _ (composable i.checked) i.room);
  flattening = λ buffer child parent application major minor mediaType creationTime lastWrittenTime p e.
      let i = flatten-accepted buffer child parent application major minor mediaType creationTime lastWrittenTime p e in
      rw (← i.answer, i.buffer-is) (flatten-leaves buffer child parent application major minor mediaType creationTime lastWrittenTime i.checked _ refl i.room);
}
