-- The invariant of the pass: what is planned so far and what is left give the whole plan.
use mathlib.Core.List.{List, []}
use mathlib.Core.Bool.{true, false}
use mathlib.Core.Option.{Option, none, some}
use mathlib.Core.Path.{◌≡◌, refl, ap, ◌∙◌}
use Prim.Native.Nat.{ℕ, suc, ◌+◌, ◌≤◌, ◌<◌, max}
use native.Mathlib.Omega.{arith}
use lib.ListN.{length, length-append}
use Rattle.format.specs.Opening.{Opened}
use Rattle.format.specs.Committing.{on_disc, among_stored, Step, step_for, store_one, new_pointers, item_or_zero, largest_item, old_pointer}
use Rattle.format.proofs.Tests.{choose-cases}
use Rattle.format.proofs.Storing.{among_stored-found}
use Rattle.planning.specs.declared.Looked.{Looked}
use Rattle.planning.specs.Plans.{is_next, Commits, sector_of, stored_by, plan_for, missing, is_new, looked_for, looked, looked_at}
use Rattle.planning.proofs.Cursor.{left, Walks, walk-starts, left-starts, walk-old, left-old, walk-new, left-new, walk-done, left-done}
use Rattle.planning.proofs.Seen.{Same, same-starts, same_more, same_new}

module _ (img : List ℕ) (t : Opened) (addresses : List ℕ) (size : ℕ) (sectors : List ℕ) where
  abbrev whole : ℕ
  whole = largest_item (new_pointers img t addresses (stored_by img t addresses size sectors).pointers t.count 0)

  pub record Planning (a k stored largest : ℕ) : Type 0 where
    pub items : List (List ℕ)
    pub walks : Walks img t addresses size sectors a k items
    pub count : stored ≡ length items
    pub few : stored ≤ k
    -- so the item of a sector that equals an earlier one adds nothing
    pub low : stored ≤ suc largest
    pub seen : Same img t size sectors k items
    pub top : max largest (largest_item (left img t addresses size sectors a k items)) ≡ whole

  pub plan-starts : Commits img t addresses size sectors → Planning 0 0 0 0
  plan-starts c =
      record {
        items = [];
        walks = walk-starts img t addresses size sectors c.rises;
        count = refl;
        few = omega arith;
        low = omega arith;
        seen = same-starts img t size sectors;
        top = rw (left-starts img t addresses size sectors) (omega arith);
      }

  pub plan-done : {a k stored largest : ℕ} → Planning a k stored largest → Commits img t addresses size sectors → t.count ≤ a
      → record { stored = stored; largest = record { 0 = largest } } ≡ plan_for img t addresses size sectors
  unfolding plan_for largest_item
  plan-done {a} {k} {stored} {largest} p c h =
      let e : stored ≡ length (stored_by img t addresses size sectors).items = p.count ∙ ap length (walk-done img t addresses size sectors p.walks c.inside h) in
      let m : max largest 0 ≡ whole = rw (left-done img t addresses size sectors a k p.items h) at p.top in
      let f : largest ≡ whole = omega arith in
      λ i. record { stored = e i; largest = record { 0 = f i } }

  module _ {a k stored largest : ℕ} (p : Planning a k stored largest) (h : a < t.count) where
    abbrev Goes : Looked → Type 0
    Goes r = Planning (a + 1) r.k r.stored (max largest r.item.0)

    goes-old : is_next addresses k a ≡ false → Goes (record { item = record { 0 = item_or_zero (old_pointer img t a) }; stored = stored; k = k })
    unfolding largest_item
    goes-old e =
        let m = rw (left-old img t addresses size sectors p.walks h e) at p.top in
        record {
          items = p.items;
          walks = walk-old img t addresses size sectors p.walks h e;
          count = p.count;
          few = p.few;
          low = omega (arith, p.low);
          seen = p.seen;
          top = omega (arith, m);
        }

    -- what is planned for sector k is what becomes of it
    record Fits (r : Looked) (s : Step) : Type 0 where
      used : r.k ≡ k + 1
      count : r.stored ≡ length s.stored
      few : r.stored ≤ k + 1
      low : r.stored ≤ suc (max largest r.item.0)
      top : max largest r.item.0 ≡ max largest s.pointer.item.0

    fits : Fits (looked img t size sectors k stored) (store_one img t (length img) p.items (sector_of size sectors k))
    unfolding looked looked_for missing store_one step_for
    fits = go (on_disc img t x) refl (among_stored p.items x) refl
      where
        x : List ℕ
        x = sector_of size sectors k

        is-new : {v : Option ℕ} → on_disc img t x ≡ none → among_stored p.items x ≡ v → is_new size sectors k ≡ missing v
        is-new e f = same_new img t size sectors k p.items p.seen e ∙ ap missing f

        go : (u : Option ℕ) → on_disc img t x ≡ u → (v : Option ℕ) → among_stored p.items x ≡ v
            → Fits (looked_for img t k stored u (is_new size sectors k)) (step_for img t (length img) p.items x u v)
        go (some b) e v f = record { used = refl; count = p.count; few = omega (arith, p.few); low = omega (arith, p.low); top = refl }
        go none e (some j) f =
            let r = among_stored-found p.items x j f in
            rw (is-new e f)
            (record { used = refl; count = p.count; few = omega (arith, p.few); low = omega (arith, p.low); top = omega (arith, r.0, p.count, p.low) })
        go none e none f =
            rw (is-new e f)
            (record {
              used = refl;
              count = simp length-append (omega (arith, p.count));
              few = omega (arith, p.few);
              low = omega arith;
              top = ap (max largest) p.count;
            })

    goes-new : is_next addresses k a ≡ true → Goes (looked img t size sectors k stored)
    unfolding largest_item item_or_zero
    goes-new e =
        let m = rw (left-new img t addresses size sectors p.walks h e) at p.top in
        record {
          items = (store_one img t (length img) p.items (sector_of size sectors k)).stored;
          walks = rw fits.used (walk-new img t addresses size sectors p.walks h e);
          count = fits.count;
          few = omega (arith, fits.few, fits.used);
          low = fits.low;
          seen = rw fits.used (same_more img t size sectors (length img) k p.items p.seen);
          top = rw fits.used (omega (arith, m, fits.top));
        }

    pub plan-goes : (r : Looked) (n : ℕ) → r ≡ looked_at img t addresses size sectors k a stored → n ≡ max largest r.item.0 → Planning (a + 1) r.k r.stored n
    unfolding looked_at
    plan-goes r n e f = rw (f, e) (choose-cases Goes (is_next addresses k a) _ _ goes-new goes-old)
