-- Once all blocks are looked at, the first address that is refused is that of the definition; and the first with 21 too.
use mathlib.Core.Bool.{Bool, true, false, not}
use mathlib.Core.List.{List, []}
use mathlib.Core.Logic.Iff
use mathlib.Core.Logic.{◌≢◌, inl, inr, ⊎_elim}
use mathlib.Core.Path.{◌≡◌, refl, sym, ap, ◌∙◌, subst}
use Prim.Native.Nat.{ℕ, ◌≤◌, ◌<◌}
use native.Mathlib.Omega.{arith}
use Rattle.std.specs.Prelude.{Ok, Err}
use Rattle.format.specs.declared.Entry.{Entry}
use Rattle.format.specs.declared.Pointer.{Pointer}
use Rattle.format.specs.declared.Refusal.{Refusal}
use Rattle.format.specs.Tests.{same, ◌and◌, choose}
use Rattle.format.specs.Refusals.{refusal, row, ◌then◌, first_refusal, Verdict}
use Rattle.format.specs.Layouts.{DBLK, index_offset, entry_count, entries}
use Rattle.format.specs.Opening.{is_user_data, Opened}
use Rattle.format.specs.Reading.{table_entry_at, not_written, unknown_status, pointer_at, has, block_verdict, item_verdict, pointer_verdict, sector_verdict}
use Rattle.format.specs.Committing.{other_than_21, sectors_verdict}
use Rattle.format.proofs.Tests.{on-or-off, never, off_rest, not_iff, and-iff, and-true, choose-true, choose-false}
use Rattle.format.proofs.Refusals.{row-iff, then-rest, then-assoc}
use Rattle.format.proofs.Checks.{keeps-others, sector-ok, sector-21, gives-21, address-ok}
use Rattle.index.proofs.Entries.{offsets-past}
use Rattle.checking.specs.declared.First.{First}
use Rattle.checking.specs.Checked.{indexed, form_verdict, entry_form, only_after, damaged, mark, looked_verdict, FirstLeft, FirstOn, FirstWithin, FirstRefused, FirstOfAll}
use Rattle.checking.proofs.Firsts.{first-at, first-same, first-refusal}
use Rattle.checking.proofs.Forms.{looked-at, passed_over}

only-after : (v w : Verdict) (d : Bool) (r : Refusal) → (v then (w then row (true and only_after v d) r)) ≡ (v then (w then row d r))
unfolding ◌then◌ ◌and◌ only_after
only-after (Ok tt) w d r = refl
only-after (Err q) w d r = refl

module _ (img : List ℕ) (t : Opened) where
  pointer-whole : (at : ℕ) (q : Pointer) → (form_verdict img at q then mark img [] q.block.0) ≡ pointer_verdict img (entries img (index_offset img)) at q
  unfolding form_verdict pointer_verdict item_verdict damaged has
  pointer-whole at q =
      then-assoc _ _ _
      ∙ ap (λ (v : Verdict). row (not (has q.block.0 (indexed img))) (refusal 22 at) then v) (then-assoc _ _ _ ∙ only-after (block_verdict img q.block.0) _ _ _)

  -- what is looked at is written, and is in some scope
  module _ (looks within : ℕ → Bool) (both : (a : ℕ) → looks a ≡ (not (not_written img t a) and within a)) where
    abbrev wanted : ℕ → Verdict
    wanted a = other_than_21 (sector_verdict img (entries img (index_offset img)) t a)

    in_scope_lem : (a : ℕ) → within a ≡ true → looked_verdict img t looks [] a ≡ wanted a
    unfolding other_than_21 same choose entry_form sector_verdict
    in_scope_lem a k =
        ⊎_elim (λ e. passed_over img t looks [] a (both a ∙ (and-iff not_iff Iff.rfl).1 (inl e)) ∙ sym (ap other_than_21 (sector-21 img _ t a e)))
        (λ e. looked-at img t looks [] a (both a ∙ and-true _ _ (ap not e) k)
        ∙ then-assoc _ _ _ ∙ ap (λ (v : Verdict). row (unknown_status img t a) (refusal 73 0) then v) (pointer-whole (table_entry_at t a) (pointer_at img t a))
        ∙ sym (keeps-others _ (λ g. never ((gives-21 img (entries img (index_offset img)) t a).0 g) e) ∙ then-rest _ _ ((row-iff (refusal 21 0) Iff.rfl).1 e)))
        (on-or-off (not_written img t a))

    address-whole : (a : ℕ) → a < t.count → looked_verdict img t looks [] a ≡ choose (within a) (wanted a) (Ok tt)
    address-whole a l =
        ⊎_elim (λ k. in_scope_lem a k ∙ sym (choose-true _ _ _ k))
        (λ k. passed_over img t looks [] a (both a ∙ (and-iff Iff.rfl Iff.rfl).1 (inr k)) ∙ sym (choose-false _ _ _ k)) (on-or-off (within a))

    pub all-looked-at : (i : ℕ) {first : First} → entry_count img (index_offset img) ≤ i → FirstOn img t looks i first → FirstWithin img t within first
    all-looked-at i {first} h f =
        first-same _ _ _ address-whole (subst (λ (l : List ℕ). FirstLeft img t looks l first) (offsets-past (is_user_data DBLK) img (index_offset img) i h) f)

  -- where the scope is all
  pub all-within : (within : ℕ → Bool) {first : First} → ((a : ℕ) → within a ≡ true) → FirstWithin img t within first → FirstRefused img t first
  all-within within k = first-same _ _ _ (λ a l. choose-true _ _ _ (k a))

  pub first-verdict : {first : First} → FirstRefused img t first → first.verdict ≡ sectors_verdict img (entries img (index_offset img)) t
  unfolding sectors_verdict
  first-verdict f = sym (first-refusal _ _ _ f)

-- ---- 21 too: the first entry below it that is not written, or itself
-- a verdict that is not left out is itself
pub kept : (v : Verdict) → other_than_21 v ≢ Ok tt → v ≡ other_than_21 v
unfolding other_than_21
kept (Ok tt) h = absurd (h refl)
kept (Err r) h = ⊎_elim (λ e. absurd (h (choose-true _ _ _ e))) (λ e. sym (choose-false _ _ _ e)) (on-or-off (same r.number 21))

module _ (img : List ℕ) (t : Opened) {first : First} (p : FirstRefused img t first) where
  abbrev check : ℕ → Verdict
  check = sector_verdict img (entries img (index_offset img)) t

  passes : (n : ℕ) → n < first.number.0 → not_written img t n ≡ false → check n ≡ Ok tt
  passes n l w =
      let es : List Entry = entries img (index_offset img) in
      (sector-ok img es t n).1 (off_rest w ((address-ok img es t n).0 (p.before n l)))

  pub gap-first : (n : ℕ) → n < first.number.0 → ((i : ℕ) → i < n → not_written img t i ≡ false) → not_written img t n ≡ true
      → FirstOfAll img t (record { number = record { 0 = n }; verdict = Err (refusal 21 0) })
  gap-first n l b e =
      first-at check t.count n (refusal 21 0) (omega (arith, p.within)) (λ i k. passes i (omega arith) (b i k)) (sector-21 img (entries img (index_offset img)) t n e)

  pub no_gap : ((i : ℕ) → i < first.number.0 → not_written img t i ≡ false) → FirstOfAll img t first
  no_gap b =
      record {
        within = p.within;
        before = λ n l. passes n l (b n l);
        here = λ l. let (e, ne) = p.here l in (kept (check first.number.0) (λ z. ne (sym e ∙ z)) ∙ e, ne);
        none = p.none;
      }

pub every_first : (img : List ℕ) (t : Opened) {first : First} → FirstOfAll img t first
    → first.verdict ≡ first_refusal (sector_verdict img (entries img (index_offset img)) t) t.count 0
every_first img t f = sym (first-refusal _ _ _ f)
