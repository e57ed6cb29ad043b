-- One entry of the table, with its sector; and a loop that writes all of them, or their sectors alone: those of the first a entries stand in the buffer.
use mathlib.Core.List.{List, [], ◌∷◌, ◌++◌, map, flatten}
use mathlib.Core.Logic.{◌≢◌, ⊎_elim}
use mathlib.Core.Option.{Option}
use mathlib.Core.Path.{◌≡◌, refl, sym, ap, ◌∙◌}
use Prim.Native.Nat.{ℕ, suc, ◌+◌, ◌*◌, ◌^◌, ◌≤◌, ◌<◌}
use native.Mathlib.Nat.{le_refl, mul-le-mul_right}
use native.Mathlib.Numerals.{add-one}
use native.Mathlib.Omega.{arith}
use lib.ListN.{length}
use Rattle.fields.specs.Bytes.{overwrite, to_le}
use Rattle.fields.proofs.Overwrite.{length-overwrite, overwrite-then, overwrite-nil, overwrite-comm, overwrite-cover}
use Rattle.format.specs.declared.Pointer.{Pointer}
use Rattle.format.specs.Lists.{All}
use Rattle.format.specs.Layouts.{block_header_length, table_header_length, table_entry_length, encode}
use Rattle.format.specs.Committing.{store_all, table_entry_bytes}
use Rattle.format.proofs.Lists.{Sized, length-flatten}
use Rattle.format.proofs.Storing.{length-entries}
use Rattle.storing.specs.declared.Handed.{Handed}
use Rattle.storing.specs.Stores.{table_entries_bytes}
use Rattle.storing.specs.Turns.{no_disc, add_at, items_in, add_in, Steps, Stepped}
use Rattle.storing.proofs.Pieces.{pieces-written, flatten-next}
use Rattle.storing.proofs.Steps.{Small, step_small}
use Rattle.composing.specs.declared.Layout.{Layout}
use Rattle.composing.specs.Composes.{handed, stored_of, pointer_of, pointers_of, entry_at, filled, Lays, Enters, Entered}
use Rattle.composing.proofs.Handed.{some_or_none, pointer-some, pointer_none, step_of, items-some, items-none, items-most, items-sized, pointers-length}

-- ---- one entry
module _ {buf sector : List ℕ} {at : Layout} {a stored : ℕ} where
  pub entered-none : {after : List ℕ} → length sector ≡ 0 → after ≡ overwrite buf (entry_at at a) (to_le table_entry_length 0) → Entered buf after at a sector stored stored
  entered-none h e = record { none = λ z. (refl, e); some = λ s. absurd (s h) }

  module _ {r : Handed} {mid : List ℕ} (h : Enters buf at a sector stored) (s : length sector ≢ 0) (w : Stepped buf mid at.used (add_in buf at.used sector stored) r) where
    pub entry-encodes : (at.shift ≤ 32) × (r.pointer.block.0 < 2 ^ 32) × (r.pointer.item.0 < 2 ^ 32)
    entry-encodes =
        let p : Small r.pointer =
        rw w.pointer
        (step_small [] no_disc at.used _ sector (length sector) (λ b o. absurd (omega (arith, o.inside))) s (omega (arith, (h.step s).room, h.short))) in
        (h.low, p.0, p.1)

    pub entered-some : {entry : ℕ} {after : List ℕ} → entry ≡ encode at.shift r.pointer → after ≡ overwrite mid (entry_at at a) (to_le table_entry_length entry)
        → Entered buf after at a sector stored r.stored
    entered-some n e =
        record {
          none = λ z. absurd (s z);
          some = λ z. (w.stored, e ∙ (λ j. overwrite (w.buffer j) (entry_at at a) (to_le table_entry_length ((n ∙ ap (encode at.shift) w.pointer) j))));
        }

-- ---- the entries of the first k
entries_next : (shift : ℕ) (ps : List (Option Pointer)) (p : Option Pointer) → map (table_entry_bytes shift) (ps ++ (p ∷ [])) ≡ map (table_entry_bytes shift) ps ++ (table_entry_bytes shift p ∷ [])
entries_next shift [] p = refl
entries_next shift (q ∷ ps) p = ap (λ (l : List (List ℕ)). table_entry_bytes shift q ∷ l) (entries_next shift ps p)

entries-more : (block : ℕ) (f : ℕ → List ℕ) (shift k : ℕ)
    → table_entries_bytes shift (pointers_of block f (suc k)) ≡ table_entries_bytes shift (pointers_of block f k) ++ table_entry_bytes shift (pointer_of block (stored_of block f k).items (f k))
unfolding pointers_of
entries-more block f shift k = ap flatten (entries_next shift (pointers_of block f k) _) ∙ flatten-next _ _

-- ---- before entry a
-- the sectors that are stored for those before it stand, in what was `base`
pub record Standing (base buf : List ℕ) (f : ℕ → List ℕ) (count : ℕ) (at : Layout) (stored a : ℕ) : Type 0 where
  pub counted : stored ≡ length (stored_of at.used f a).items
  pub most : a ≤ count
  pub is : buf ≡ overwrite base (at.used + block_header_length) (flatten (stored_of at.used f a).items)

-- and so do the entries
pub record Going (buf₀ buf : List ℕ) (f : ℕ → List ℕ) (count size : ℕ) (at : Layout) (stored a : ℕ) : Type 0 where
  pub standing : Standing (overwrite buf₀ (at.table.0 + table_header_length) (table_entries_bytes at.shift (pointers_of at.used f a))) buf f count at stored a

module _ {buf₀ : List ℕ} {f : ℕ → List ℕ} {count size : ℕ} {at : Layout} (h : Lays buf₀ f count size at) where
  abbrev start : ℕ
  start = at.used + block_header_length

  abbrev table : ℕ
  table = at.table.0 + table_header_length

  abbrev items : ℕ → List (List ℕ)
  items k = (stored_of at.used f k).items

  abbrev entries : ℕ → List ℕ
  entries k = table_entries_bytes at.shift (pointers_of at.used f k)

  -- the stored sectors lie before the entries
  items-room : (k : ℕ) → k ≤ count → start + length (items k) * size ≤ table
  items-room k m = omega (arith, mul-le-mul_right size (items-most at.used f k count m), h.items)

  sized : (k : ℕ) → k ≤ count → All (Sized size) (items k)
  sized k m = items-sized at.used f h.sectors k m

  items-long : (k : ℕ) → k ≤ count → length (flatten (items k)) ≡ length (items k) * size
  items-long k m = length-flatten size (items k) (sized k m)

  entries-long : (k : ℕ) → length (entries k) ≡ table_entry_length * k
  entries-long k = length-entries at.shift (pointers_of at.used f k) ∙ ap (λ n. table_entry_length * n) (pointers-length at.used f k)

  -- ---- the sectors alone
  pub standing-starts : Standing buf₀ buf₀ f count at 0 0
  unfolding handed store_all flatten
  standing-starts = record { counted = refl; most = omega arith; is = sym (overwrite-nil buf₀ start) }

  module _ {base buf : List ℕ} {stored a : ℕ} (lb : length base ≡ length buf₀) (g : Standing base buf f count at stored a) where
    pub standing-long : length buf ≡ length buf₀
    standing-long = ap length g.is ∙ length-overwrite base start _ ∙ lb

    pub standing-done : count ≤ a → (stored ≡ length (items count)) × (buf ≡ overwrite base start (flatten (items count)))
    standing-done l =
        let e : a ≡ count = omega (arith, g.most) in
        (g.counted ∙ ap (λ n. length (items n)) e, g.is ∙ ap (λ n. overwrite base start (flatten (items n))) e)

    module _ (l : a < count) {x : List ℕ} (e : x ≡ f a) where
      -- the stored sectors stand in the buffer, and so what becomes of this one is known
      stand : items_in buf at.used stored size ≡ items a
      stand =
          let m : a ≤ count = omega arith in
          (λ j. items_in (g.is j) at.used (g.counted j) size) ∙ pieces-written base start size (items a) (sized a m) (omega (arith, items-room a m, h.entries))

      -- they are written over by themselves and the next
      covered : overwrite buf start (flatten (items (suc a))) ≡ overwrite base start (flatten (items (suc a)))
      covered =
          let grown = mul-le-mul_right size (items-most at.used f a (suc a) (omega arith)) in
          ap (λ (b : List ℕ). overwrite b start (flatten (items (suc a)))) g.is
          ∙ overwrite-cover base start (flatten (items (suc a))) start (flatten (items a)) (le_refl start) (omega (arith, items-long a (omega arith), items-long (suc a) l)) (omega (arith, items-long (suc a) l, items-room (suc a) l, h.entries))

      module _ (z : length x ≡ 0) where
        f-none : length (f a) ≡ 0
        f-none = rw (← e) z

        same-items : items (suc a) ≡ items a
        same-items = items-none at.used f a f-none

        pub standing-none : Standing base buf f count at stored (a + 1)
        standing-none =
            rw (add-one a)
            (record { counted = g.counted ∙ ap length (sym same-items); most = l; is = g.is ∙ ap (λ (st : List (List ℕ)). overwrite base start (flatten st)) (sym same-items) })

      module _ (s : length x ≢ 0) where
        f-some : length (f a) ≢ 0
        f-some = rw (← e) s

        length-x : length x ≡ size
        length-x = ap length e ∙ h.sectors.sized a l f-some

        step_is : add_in buf at.used x stored ≡ step_of at.used f a
        step_is = ap (λ n. add_at at.used (items_in buf at.used stored n) x) length-x ∙ (λ j. add_at at.used (stand j) (e j))

        stored_is : (add_in buf at.used x stored).stored ≡ items (suc a)
        stored_is = ap (λ st. st.stored) step_is ∙ sym (items-some at.used f a f-some)

        -- there is room for it
        pub standing-steps : Steps buf at.used x (add_in buf at.used x stored)
        standing-steps =
            record {
              pos = s;
              short = omega (arith, standing-long, h.short);
              room = rw (stored_is, length-x) (omega (arith, items-room (suc a) l, standing-long, h.entries));
            }

        pub standing-some : {after : List ℕ} {r : Handed} → Stepped buf after at.used (add_in buf at.used x stored) r → Standing base after f count at r.stored (a + 1)
        standing-some w =
            rw (add-one a)
            (record {
              counted = w.stored ∙ ap length stored_is;
              most = l;
              is = w.buffer ∙ ap (λ (st : List (List ℕ)). overwrite buf start (flatten st)) stored_is ∙ covered;
            })

  -- where they stand, all that is written leaves the same
  module _ {buf : List ℕ} (e : buf ≡ overwrite buf₀ start (flatten (items count))) where
    pub stored-lays : Lays buf f count size at
    stored-lays =
        let l : length buf ≡ length buf₀ = ap length e ∙ length-overwrite buf₀ start _ in
        record { sectors = h.sectors; short = omega (arith, h.short); items = h.items; entries = omega (arith, h.entries); low = h.low }

    pub stored-filled : filled buf f count at ≡ filled buf₀ f count at
    stored-filled =
        ap (λ (b : List ℕ). overwrite b table (entries count))
        (ap (λ (b : List ℕ). overwrite b start (flatten (items count))) e
        ∙ overwrite-cover buf₀ start (flatten (items count)) start (flatten (items count)) (le_refl start) (le_refl _) (omega (arith, items-long count (le_refl count), items-room count (le_refl count), h.entries)))

  -- ---- with the entries
  pub going-starts : Going buf₀ buf₀ f count size at 0 0
  unfolding handed store_all pointers_of flatten
  going-starts = record { standing = record { counted = refl; most = omega arith; is = sym (overwrite-nil _ start ∙ overwrite-nil buf₀ table) } }

  module _ {buf : List ℕ} {stored a : ℕ} (g : Going buf₀ buf f count size at stored a) where
    long : length (overwrite buf₀ table (entries a)) ≡ length buf₀
    long = length-overwrite buf₀ table (entries a)

    pub going-long : length buf ≡ length buf₀
    going-long = standing-long long g.standing

    pub going_done : count ≤ a → buf ≡ filled buf₀ f count at
    going_done l =
        let e : a ≡ count = omega (arith, g.standing.most) in
        (standing-done long g.standing l).1 ∙ ap (λ n. overwrite (overwrite buf₀ table (entries n)) start (flatten (items count))) e
        ∙ overwrite-comm buf₀ table (entries count) start (flatten (items count)) (omega (arith, items-room count (le_refl count), items-long count (le_refl count)))

    module _ (l : a < count) {x : List ℕ} (e : x ≡ f a) where
      pub going-enters : Enters buf at a x stored
      going-enters =
          record {
            short = omega (arith, going-long, h.short);
            step = standing-steps long g.standing l e;
            entry = omega (arith, going-long, h.entries);
            low = h.low;
          }

      -- the sectors, and then the entry
      next-is : {after : List ℕ} (entry : List ℕ) → table_entry_bytes at.shift (pointer_of at.used (items a) (f a)) ≡ entry
          → after ≡ overwrite (overwrite buf start (flatten (items (suc a)))) (entry_at at a) entry
          → after ≡ overwrite (overwrite buf₀ table (entries (suc a))) start (flatten (items (suc a)))
      next-is {after} entry en ea =
          let B : List ℕ = overwrite buf₀ table (entries a) in
          let Y : List ℕ = flatten (items (suc a)) in
          let le : entry_at at a ≡ table + length (entries a) = omega (arith, entries-long a) in
          ea ∙ (λ j. overwrite (covered long g.standing l e j) (le j) entry)
          ∙ sym (overwrite-comm B (table + length (entries a)) entry start Y (omega (arith, items-long (suc a) l, items-room (suc a) l)))
          ∙ ap (λ (b : List ℕ). overwrite b start Y)
          (overwrite-then buf₀ table (entries a) entry ∙ ap (overwrite buf₀ table) (ap (λ (n : List ℕ). entries a ++ n) (sym en) ∙ sym (entries-more at.used f at.shift a)))

      pub going-entered : {after : List ℕ} {next : ℕ} → Entered buf after at a x stored next → Going buf₀ after f count size at next (a + 1)
      unfolding table_entry_bytes
      going-entered {after} {next} w =
          rw (add-one a)
          (⊎_elim
          (λ s.
          let r = w.some s in
          let i = stored_is long g.standing l e s in
          record {
            standing = record {
              counted = r.0 ∙ ap length i;
              most = l;
              is = next-is (to_le table_entry_length (encode at.shift (step_of at.used f a).pointer))
                  (ap (table_entry_bytes at.shift) (pointer-some at.used (items a) (f a) (f-some long g.standing l e s)))
                  (r.1 ∙ (λ j. overwrite (overwrite buf start (flatten (i j))) (entry_at at a) (to_le table_entry_length (encode at.shift (step_is long g.standing l e s j).pointer))));
            };
          })
          (λ z.
          let r = w.none z in
          let i = same-items long g.standing l e z in
          record {
            standing = record {
              counted = r.0 ∙ g.standing.counted ∙ ap length (sym i);
              most = l;
              is = next-is (to_le table_entry_length 0) (ap (table_entry_bytes at.shift) (pointer_none at.used (items a) (f a) (f-none long g.standing l e z)))
                  (r.1 ∙ ap (λ (b : List ℕ). overwrite b (entry_at at a) (to_le table_entry_length 0)) (sym (over-again i)));
            };
          })
          (some_or_none x))
        where
          -- the stored sectors, written over by themselves
          over-again : items (suc a) ≡ items a → overwrite buf start (flatten (items (suc a))) ≡ buf
          over-again i =
              covered long g.standing l e ∙ ap (λ (st : List (List ℕ)). overwrite (overwrite buf₀ table (entries a)) start (flatten st)) i ∙ sym g.standing.is
