-- A disc over its parent: demand 2 of the pair, its refusals, and that its three calls agree.
use mathlib.Core.Bool.{true, false}
use mathlib.Core.List.{List, []}
use mathlib.Core.Logic.Iff
use mathlib.Core.Logic.{◌≢◌, inl, inr, ⊎_elim, ◌↔◌}
use mathlib.Core.Path.{◌≡◌, refl, sym, ap, ◌∙◌, subst}
use Prim.Native.Nat.{ℕ, ◌+◌, ◌≤◌}
use native.Mathlib.Omega.{arith}
use lib.ListN.{length}
use lib.IntN.{ℤ}
use Rattle.std.specs.Prelude.{Ok, Err}
use Rattle.fields.specs.Bytes.{part}
use Rattle.format.specs.declared.Place.{Place}
use Rattle.format.specs.declared.Refusal.{Refusal}
use Rattle.format.specs.declared.Sourced.{Sourced}
use Rattle.format.specs.Tests.{same}
use Rattle.format.specs.Refusals.{refusal, Answer, Verdict}
use Rattle.format.specs.Layouts.{index_offset, entries}
use Rattle.format.specs.Opening.{table_at, kind_at, Opened, opened_as, opened}
use Rattle.format.specs.Reading.{outside, entry_number, not_written, item_bytes, address_verdict, read_verdict, read_at, read, locate}
use Rattle.format.specs.Answers.{bytes_read}
use Rattle.format.specs.Overlaying.{parent_refusal, from_parent, over, disc_over, read_over, in_image, locate_over, image_of, source_over}
use Rattle.format.specs.Demands.{FromTo, PlaceFor, at_header, at_index, at_entry, at_table, at_table_entry, at_block, at_none, Missing, NamesNothing, NamesOver, the_child, the_parent, image_by, ItemOver, OverReading, OverReturned, OverAgrees, RefusedOver, by_child, by_neither, by_parent, OverRefused}
use Rattle.format.specs.Facts.{NotWritten, HasEntry}
use Rattle.format.proofs.Tests.{on-or-off, same-iff, same-on}
use Rattle.format.proofs.Refusals.{row-iff, gives, row-says, says-not, says-refused, then-gives, answer-passes, answer-refuses, answer-accepted, answer-refused}
use Rattle.format.proofs.Checks.{OpenOk, open-ok, sector-21, gives-21}
use Rattle.format.proofs.Opens.{opens-forth, opens_back, opened-as}
use Rattle.format.proofs.Reading.{not_written_lem, inside-entry, entry-inside, entry-number, locating, item-fits, item-some, locate-refuses-as-read}
use Rattle.format.proofs.Refusing.{read-says, open-not}
use Rattle.format.proofs.Overlaying.{parent-20, parent-21, parent-other, over-child, over-other, over-parent, over_verdict, over-passes, chosen, read_by, place_in, bytes_in, read-over, locate-over}

-- ---- an address is not written exactly if it reads as 21
module _ (img : List ℕ) (a : ℤ) where
  abbrev o : ℕ
  o = index_offset img

  abbrev t : Opened
  t = opened img o

  verdict-21 : (read_verdict img o a ≡ Err (refusal 21 0)) ↔ (OpenOk img o × ((outside t a ≡ false) × (not_written img t (entry_number t a) ≡ true)))
  unfolding read_verdict address_verdict
  verdict-21 =
      Iff.trans (then-gives _ _ (refusal 21 0) (open-not 21 (⊎_elim (λ f. omega arith) (λ f. omega arith)) img o))
      (Iff.and (open-ok img o)
      (Iff.trans (then-gives _ _ (refusal 21 0) (says-not 21 _ (row-says _ _ (refusal 20 0) (λ e. omega arith))))
      (Iff.and (row-iff _ Iff.rfl) ((λ e. (gives-21 img (entries img o) t _).0 (gives _ e)), sector-21 img (entries img o) t _))))

  missing-forth : Missing (read img a) → NamesNothing img a
  unfolding read read_at opened
  missing-forth m =
      let (k, (h, w)) = verdict-21.0 (answer-refused _ _ (refusal 21 0) m) in
      let e : HasEntry img (kind_at img (table_at img o)) (table_at img o) a = inside-entry img _ _ a h in
      record {
        kind = kind_at img (table_at img o);
        table = table_at img o;
        opens = opens-forth img o k;
        has_entry = e;
        unwritten = subst (NotWritten img (kind_at img (table_at img o)) (table_at img o)) (entry-number img _ _ a e) ((not_written_lem img _ _ _).0 w);
      }

  missing-back : NamesNothing img a → Missing (read img a)
  unfolding read read_at
  missing-back n =
      let is : t ≡ opened_as img n.kind n.table = opened-as img o n.kind n.table n.opens in
      answer-refuses _ _ (refusal 21 0)
      (verdict-21.1 (
        opens_back img o n.kind n.table n.opens,
        (
          rw is (entry-inside img n.kind n.table a n.has_entry),
          rw (is, entry-number img n.kind n.table a n.has_entry) ((not_written_lem img n.kind n.table n.has_entry.number).1 n.unwritten),
        ),
      ))

  names-nothing : Missing (read img a) ↔ NamesNothing img a
  names-nothing = (missing-forth, missing-back)

  -- a refusal with 20 or 21 has no place
  place_none : {LookedAt : ℕ → Type 0} (n p : ℕ) → FromTo 20 21 n → PlaceFor img o LookedAt n p → p ≡ 0
  place_none n _ f (at_header g) = refl
  place_none n _ f (at_index g) = absurd (⊎_elim (λ h. omega (arith, f, h)) (λ h. omega (arith, f, h)) g)
  place_none n _ f (at_entry i g h) = absurd (omega (arith, f, g))
  place_none n _ f (at_table g) = absurd (omega (arith, f, g))
  place_none _ _ f (at_table_entry i h) = absurd (omega (arith, f))
  place_none n _ f (at_block i g h) = absurd (omega (arith, f, g))
  place_none n _ f (at_none g) = refl

  pub refused_none : (r : Refusal) → FromTo 20 21 r.number → read img a ≡ Err r → read img a ≡ Err (refusal r.number 0)
  unfolding read read_at
  refused_none r f e =
      let q = says-refused _ _ r (read-says img o a) (answer-refused _ _ r e) in
      e ∙ (λ i. Err (record { number = r.number; place = record { 0 = place_none r.number r.place.0 f q.1 i } }))

  refused-21 : (r : Refusal) → r.number ≡ 21 → read img a ≡ Err r → Missing (read img a)
  refused-21 r n e = refused_none r (omega (arith, n)) e ∙ (λ i. Err (refusal (n i) 0))

-- ---- the pair names an item exactly if the call that says where accepts
not-refused : {A : Type 0} {x : A} {r : Refusal} → Ok x ≢ Err r
not-refused e = let z : ◌≡◌ {A = ℕ} 0 1 = cc in absurd (omega arith)

module _ (child parent : List ℕ) (a : ℤ) where
  -- the child is not written where the pair's sector is the parent's
  unwritten : (r : Refusal) → read_by child a ≡ Err r → r.number ≡ 21 → Missing (read child a)
  unfolding read read_at
  unwritten r e n = refused-21 child a r n (answer-refuses _ _ r e)

  names-forth : (v : Verdict) → read_by child a ≡ v → over_verdict v (read_by parent a) ≡ Ok tt
      → NamesOver child parent a (chosen v (record { image = 0; place = place_in child a }) (record { image = 1; place = place_in parent a }))
  unfolding chosen locate
  names-forth (Ok tt) e k = the_child ((locating child a _).0 (answer-passes _ _ e))
  names-forth (Err r) e k =
      let (n, w) = over-passes r (read_by parent a) k in
      the_parent ((names-nothing child a).0 (unwritten r e n)) ((locating parent a _).0 (answer-passes _ _ w))

  over-forth : (s : Sourced) → locate_over child parent a ≡ Ok s → NamesOver child parent a s
  over-forth s e =
      let q = answer-accepted _ _ s (sym (locate-over child parent a) ∙ e) in
      subst (NamesOver child parent a) q.1 (names-forth (read_by child a) refl q.0)

  over-back : (s : Sourced) → NamesOver child parent a s → locate_over child parent a ≡ Ok s
  unfolding locate_over in_image from_parent over
  over-back _ (the_child {place = p} n) = ap (λ (x : Answer Place). over (in_image 0 x) (in_image 1 (locate parent a))) ((locating child a p).1 n)
  over-back _ (the_parent {place = p} n m) =
      ap (λ (x : Answer Place). over (in_image 0 x) (in_image 1 (locate parent a))) ((locate-refuses-as-read child a _).1 ((names-nothing child a).1 n))
      ∙ over-parent (refusal 21 0) (in_image 1 (locate parent a)) refl
      ∙ ap (λ (x : Answer Place). from_parent (in_image 1 x)) ((locating parent a p).1 m)

  pub locating-over : (s : Sourced) → (locate_over child parent a ≡ Ok s) ↔ NamesOver child parent a s
  locating-over s = (over-forth s, over-back s)

  -- ---- what is read is the part that it names
  part-is : (v : Verdict) → let s : Sourced = chosen v (record { image = 0; place = place_in child a }) (record { image = 1; place = place_in parent a }) in
      chosen v (bytes_in child a) (bytes_in parent a) ≡ part (image_by child parent s.image) s.place.start.0 s.place.size
  unfolding chosen image_by item_bytes
  part-is (Ok tt) = refl
  part-is (Err r) = refl

  read-part : (s : Sourced) → locate_over child parent a ≡ Ok s
      → read_over child parent a ≡ Ok (part (image_by child parent s.image) s.place.start.0 s.place.size)
  read-part s e =
      let q = answer-accepted _ _ s (sym (locate-over child parent a) ∙ e) in
      read-over child parent a ∙ answer-passes _ _ q.0
      ∙ ap Ok (part-is (read_by child a) ∙ ap (λ (u : Sourced). part (image_by child parent u.image) u.place.start.0 u.place.size) q.1)

  -- which lies in its image, and is not empty
  fits : (s : Sourced) → NamesOver child parent a s → s.place.start.0 + s.place.size ≤ length (image_by child parent s.image)
  unfolding image_by
  fits _ (the_child {place = p} n) = item-fits child a p n
  fits _ (the_parent {place = p} n m) = item-fits parent a p m

  some : (s : Sourced) → NamesOver child parent a s → part (image_by child parent s.image) s.place.start.0 s.place.size ≢ []
  unfolding image_by
  some _ (the_child {place = p} n) = item-some child a p n
  some _ (the_parent {place = p} n m) = item-some parent a p m

  refuses-alike : (r : Refusal) → (locate_over child parent a ≡ Err r) ↔ (read_over child parent a ≡ Err r)
  refuses-alike r = (
    (λ e. read-over child parent a ∙ answer-refuses _ _ r (answer-refused _ _ r (sym (locate-over child parent a) ∙ e))),
    λ e. locate-over child parent a ∙ answer-refuses _ _ r (answer-refused _ _ r (sym (read-over child parent a) ∙ e)),
  )

  image-refused : (x : Answer Sourced) (r : Refusal) → (image_of x ≡ Err r) ↔ (x ≡ Err r)
  unfolding image_of
  image-refused (Ok s) r = (λ e. absurd (not-refused e), λ e. absurd (not-refused e))
  image-refused (Err q) r = (λ e. cc, λ e. cc)

  -- ---- a sector is read exactly if it is an item's
  reads-forth : (sector : List ℕ) → read_over child parent a ≡ Ok sector → ItemOver child parent a sector
  reads-forth sector e =
      let q = answer-accepted _ _ sector (sym (read-over child parent a) ∙ e) in
      let l = locate-over child parent a ∙ answer-passes _ _ q.0 in
      record { source = _; names = over-forth _ l; bytes = sym (part-is (read_by child a)) ∙ q.1 }

  reads-back : (sector : List ℕ) → ItemOver child parent a sector → read_over child parent a ≡ Ok sector
  reads-back sector i = read-part i.source (over-back i.source i.names) ∙ ap Ok i.bytes

  given : (sector : List ℕ) (x : Answer (List ℕ)) → read_over child parent a ≡ x → bytes_read x ≡ sector → sector ≢ [] → read_over child parent a ≡ Ok sector
  unfolding bytes_read
  given sector (Ok l) q e s = q ∙ ap Ok e
  given sector (Err r) q e s = absurd (s (sym e))

pub over-reading : OverReading
over-reading child parent a sector = (reads-forth child parent a sector, reads-back child parent a sector)

-- no sector is empty
pub over-some : (child parent : List ℕ) (a : ℤ) (sector : List ℕ) → read_over child parent a ≡ Ok sector → sector ≢ []
over-some child parent a sector e z = let i = (over-reading child parent a sector).0 e in some child parent a i.source i.names (i.bytes ∙ z)

pub over-returned : OverReturned
unfolding bytes_read
over-returned child parent a sector = (
  (λ (e, s). (over-reading child parent a sector).0 (given child parent a sector (read_over child parent a) refl e s)),
  λ i. let e = (over-reading child parent a sector).1 i in (ap bytes_read e, over-some child parent a sector e),
)

pub over-agrees : OverAgrees
unfolding source_over image_of
over-agrees child parent a = record {
  source = λ s e. ap image_of e;
  inside = λ s e. fits child parent a s ((locating-over child parent a s).0 e);
  bytes = read-part child parent a;
  refuses = refuses-alike child parent a;
  source_refuses = λ r. Iff.trans (image-refused child parent a (locate_over child parent a) r) (refuses-alike child parent a r);
}

-- ---- its refusals
module _ (child parent : List ℕ) (a : ℤ) where
  parent-refused : (r q : Refusal) → Missing (read child a) → read parent a ≡ Err q → parent_refusal q ≡ r → RefusedOver child parent a r
  parent-refused r q m e p =
      ⊎_elim
      (λ h. let n : q.number ≡ 20 = same-on _ _ h in
      subst (RefusedOver child parent a) (sym (parent-20 q n) ∙ p)
      (by_neither m (inr (refused_none parent a q (omega (arith, n)) e ∙ (λ i. Err (refusal (n i) 0))))))
      (λ h. ⊎_elim
      (λ k. let n : q.number ≡ 21 = same-on _ _ k in
      subst (RefusedOver child parent a) (sym (parent-21 q n) ∙ p) (by_neither m (inl (refused-21 parent a q n e))))
      (λ k. subst (RefusedOver child parent a) (sym (parent-other q (same-iff.0 h) (same-iff.0 k)) ∙ p) (by_parent m e (same-iff.0 h) (same-iff.0 k)))
      (on-or-off (same q.number 21)))
      (on-or-off (same q.number 20))

  from-parent : (x : Answer (List ℕ)) (r : Refusal) → Missing (read child a) → read parent a ≡ x → from_parent x ≡ Err r → RefusedOver child parent a r
  unfolding from_parent
  from-parent (Ok d) r m e h = absurd (not-refused h)
  from-parent (Err q) r m e h = parent-refused r q m e cc

  refused-forth : (x : Answer (List ℕ)) (r : Refusal) → read child a ≡ x → over x (read parent a) ≡ Err r → RefusedOver child parent a r
  refused-forth (Ok d) r e h = absurd (not-refused (sym (over-child d _) ∙ h))
  refused-forth (Err q) r e h =
      ⊎_elim
      (λ k. let n : q.number ≡ 21 = same-on _ _ k in from-parent (read parent a) r (refused-21 child a q n e) refl (sym (over-parent q _ n) ∙ h))
      (λ k. let is : Err q ≡ Err r = sym (over-other q (read parent a) (same-iff.0 k)) ∙ h in
      let same : q ≡ r = cc in
      subst (RefusedOver child parent a) same (by_child e (same-iff.0 k)))
      (on-or-off (same q.number 21))

  refused-back : (r : Refusal) → RefusedOver child parent a r → over (read child a) (read parent a) ≡ Err r
  unfolding from_parent
  refused-back r (by_child e n) = ap (λ (x : Answer (List ℕ)). over x (read parent a)) e ∙ over-other r _ n
  refused-back _ (by_neither m k) =
      ap (λ (x : Answer (List ℕ)). over x (read parent a)) m ∙ over-parent (refusal 21 0) (read parent a) refl
      ∙ ⊎_elim (λ e. ap (λ (x : Answer (List ℕ)). from_parent x) e ∙ ap Err (parent-21 (refusal 21 0) refl)) (λ e. ap (λ (x : Answer (List ℕ)). from_parent x) e ∙ ap Err (parent-20 (refusal 20 0) refl)) k
  refused-back _ (by_parent {r = q} m e c d) =
      ap (λ (x : Answer (List ℕ)). over x (read parent a)) m ∙ over-parent (refusal 21 0) (read parent a) refl
      ∙ ap (λ (x : Answer (List ℕ)). from_parent x) e ∙ ap Err (parent-other q c d)

pub over-refused : OverRefused
unfolding read_over disc_over
over-refused child parent a r = (refused-forth child parent a (read child a) r refl, refused-back child parent a r)
