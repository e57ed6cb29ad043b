-- The loops over the old entries, with `left` of them from place p on: what those that are left give with what was done, and what all give.
use mathlib.Core.List.{List, [], ◌∷◌, flatten}
use mathlib.Core.Bool.{true, false}
use mathlib.Core.Path.{◌≡◌, refl, sym, ap, ◌∙◌}
use Prim.Native.Nat.{ℕ, ◌+◌, ◌-◌, ◌*◌, ◌≤◌, ◌<◌}
use native.Mathlib.Omega.{arith}
use lib.ListN.{length, take}
use Rattle.fields.specs.Bytes.{part, overwrite}
use Rattle.fields.proofs.Overwrite.{length-overwrite, overwrite-then, take-overwrite, written}
use Rattle.format.specs.declared.Entry.{Entry}
use Rattle.format.specs.Layouts.{CKSM, index_header_length, entry_length, entry_count, entry_at, entries_from, entries, entry_bytes}
use Rattle.format.specs.Opening.{is_type}
use Rattle.format.specs.Committing.{kept_entry, kept_entries}
use Rattle.format.proofs.Tests.{choose-true, choose-false}
use Rattle.format.proofs.Written.{length-entry_bytes}
use Rattle.index.proofs.Entries.{entries_next, entries-done}
use Rattle.indexing.specs.Entries.{entries_bytes}

-- ---- one entry
module _ (table : ℕ) (img : List ℕ) (left p : ℕ) (h : 0 < left) where
  kept-skips : is_type CKSM (entry_at img p) ≡ true → kept_entries table (entries_from img left p) ≡ kept_entries table (entries_from img (left - 1) (p + entry_length))
  unfolding kept_entries
  kept-skips e = ap (kept_entries table) (entries_next img left p h) ∙ choose-true _ _ _ e

  kept-keeps : is_type CKSM (entry_at img p) ≡ false
      → kept_entries table (entries_from img left p) ≡ kept_entry table (entry_at img p) ∷ kept_entries table (entries_from img (left - 1) (p + entry_length))
  unfolding kept_entries
  kept-keeps e = ap (kept_entries table) (entries_next img left p h) ∙ choose-false _ _ _ e

kept-done : (table : ℕ) (img : List ℕ) (left p : ℕ) → left ≤ 0 → kept_entries table (entries_from img left p) ≡ []
unfolding kept_entries
kept-done table img left p h = ap (kept_entries table) (entries-done img left p h)

-- ---- counting: `kept` so far, of the index at o
pub record Counting (s : List ℕ) (o left p kept : ℕ) : Type 0 where
  pub inside : p + entry_length * left ≤ length s
  pub few : kept + left ≤ entry_count s o
  pub sum : (table : ℕ) → kept + length (kept_entries table (entries_from s left p)) ≡ length (kept_entries table (entries s o))

pub count-starts : (s : List ℕ) (o left : ℕ) → left ≡ entry_count s o → o + index_header_length + entry_length * entry_count s o ≤ length s
    → Counting s o left (o + index_header_length) 0
unfolding entries
count-starts s o left e h =
    record { inside = omega arith; few = omega arith; sum = λ table. rw e (omega arith) }

module _ {s : List ℕ} {o left p kept : ℕ} (c : Counting s o left p kept) where
  pub count-skips : 0 < left → is_type CKSM (entry_at s p) ≡ true → Counting s o (left - 1) (p + entry_length) kept
  count-skips h e =
      record { inside = omega arith; few = omega arith; sum = λ table. ap (λ (l : List Entry). kept + length l) (sym (kept-skips table s left p h e)) ∙ c.sum table }

  pub count-keeps : 0 < left → is_type CKSM (entry_at s p) ≡ false → Counting s o (left - 1) (p + entry_length) (kept + 1)
  count-keeps h e =
      record {
        inside = omega arith;
        few = omega arith;
        sum = λ table. omega (arith, ap length (kept-keeps table s left p h e), c.sum table);
      }

  pub count-ends : left ≤ 0 → (table : ℕ) → kept ≡ length (kept_entries table (entries s o))
  count-ends h table = omega (arith, ap length (kept-done table s left p h), c.sum table)

-- ---- writing: from `at` on, past the image of `used` bytes with its index at o; the next goes to q
pub record Putting (buf₀ : List ℕ) (used table o at : ℕ) (buf : List ℕ) (left p q : ℕ) : Type 0 where
  pub inside : p + entry_length * left ≤ used
  pub past : used ≤ q
  pub long : length buf ≡ length buf₀
  pub image : take used buf ≡ take used buf₀
  pub room : q + entry_length * length (kept_entries table (entries_from (take used buf₀) left p)) ≤ length buf₀
  pub rest : overwrite buf q (entries_bytes (kept_entries table (entries_from (take used buf₀) left p)))
      ≡ overwrite buf₀ at (entries_bytes (kept_entries table (entries (take used buf₀) o)))

pub put-starts : (buf : List ℕ) (used table o at left : ℕ) → left ≡ entry_count (part buf 0 used) o
    → (o + index_header_length + entry_length * entry_count (take used buf) o ≤ used) × (used ≤ at)
    × (at + entry_length * length (kept_entries table (entries (take used buf) o)) ≤ length buf)
    → Putting buf used table o at buf left (o + index_header_length) at
unfolding part entries
put-starts buf used table o at left e h =
    rw e (record { inside = h.0; past = h.1; long = refl; image = refl; room = h.2; rest = refl })

module _ {buf₀ : List ℕ} {used table o at : ℕ} {buf : List ℕ} {left p q : ℕ} (c : Putting buf₀ used table o at buf left p q) (h : 0 < left) {e : Entry}
    (read : e ≡ entry_at (part buf 0 used) p) where
  same-entry : e ≡ entry_at (take used buf₀) p
  unfolding part
  same-entry = read ∙ ap (λ (l : List ℕ). entry_at l p) c.image

  pub put-skips : is_type CKSM e ≡ true → Putting buf₀ used table o at buf (left - 1) (p + entry_length) q
  put-skips k =
      let n = kept-skips table (take used buf₀) left p h (ap (is_type CKSM) (sym same-entry) ∙ k) in
      record {
        inside = omega (arith, c.inside);
        past = c.past;
        long = c.long;
        image = c.image;
        room = rw (← n) c.room;
        rest = rw (← n) c.rest;
      }

  keeps : is_type CKSM e ≡ false → kept_entries table (entries_from (take used buf₀) left p)
      ≡ kept_entry table e ∷ kept_entries table (entries_from (take used buf₀) (left - 1) (p + entry_length))
  keeps k = rw same-entry (kept-keeps table (take used buf₀) left p h (ap (is_type CKSM) (sym same-entry) ∙ k))

  pub put-room : is_type CKSM e ≡ false → q + entry_length ≤ length buf
  put-room k = omega (arith, ap length (keeps k), c.room, c.long)

  pub put_keeps : {x : Entry} {after : List ℕ} → is_type CKSM e ≡ false → x ≡ kept_entry table e → after ≡ overwrite buf q (entry_bytes x)
      → Putting buf₀ used table o at after (left - 1) (p + entry_length) (q + entry_length)
  unfolding entries_bytes flatten
  put_keeps {x} {after} k ex w =
      let more : List Entry = kept_entries table (entries_from (take used buf₀) (left - 1) (p + entry_length)) in
      let n = keeps k in
      let y : List ℕ = entry_bytes (kept_entry table e) in
      let w' : after ≡ overwrite buf q y = w ∙ ap (λ (z : Entry). overwrite buf q (entry_bytes z)) ex in
      let m : q + entry_length ≡ q + length y = omega (arith, length-entry_bytes (kept_entry table e)) in
      record {
        inside = omega (arith, c.inside);
        past = omega (arith, c.past);
        long = ap length w' ∙ length-overwrite buf q y ∙ c.long;
        image = ap (take used) w' ∙ take-overwrite buf q y used c.past ∙ c.image;
        room = omega (arith, ap length n, c.room);
        rest = ap (λ (l : List ℕ). overwrite l (q + entry_length) (entries_bytes more)) w'
            ∙ ap (λ (a : ℕ). overwrite (overwrite buf q y) a (entries_bytes more)) m
            ∙ overwrite-then buf q y (entries_bytes more)
            ∙ ap (λ (l : List Entry). overwrite buf q (entries_bytes l)) (sym n) ∙ c.rest;
      }

pub put-ends : {buf₀ : List ℕ} {used table o at : ℕ} {buf : List ℕ} {left p q : ℕ} → Putting buf₀ used table o at buf left p q → left ≤ 0
    → buf ≡ overwrite buf₀ at (entries_bytes (kept_entries table (entries (take used buf₀) o)))
unfolding entries_bytes flatten
put-ends {buf₀} {used} {table} {o} {at} {buf} {left} {p} {q} c h = written buf q _ _ (ap entries_bytes (kept-done table (take used buf₀) left p h)) c.rest
