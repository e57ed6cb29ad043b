-- What becomes of the first address that is refused once one block more is looked at.
use mathlib.Core.Bool.{Bool, true, false, not}
use mathlib.Core.List.{List, ◌∷◌}
use mathlib.Core.Logic.Iff
use mathlib.Core.Logic.{◌≢◌, ◌⊎◌, inl, inr, ⊎_elim}
use mathlib.Core.Path.{◌≡◌, refl, sym, ap, ◌∙◌, subst}
use Prim.Native.Nat.{ℕ, ◌+◌, ◌≤◌, ◌<◌}
use native.Mathlib.Omega.{arith}
use Rattle.std.specs.Prelude.{Ok, Err}
use Rattle.format.specs.Tests.{same, ◌and◌, choose}
use Rattle.format.specs.Refusals.{refusal, row, ◌then◌}
use Rattle.format.specs.declared.Entry.{Entry}
use Rattle.format.specs.Layouts.{DBLK, index_offset, entry_count, entry_at}
use Rattle.format.specs.Opening.{is_user_data, offsets_of, Opened}
use Rattle.format.specs.Reading.{pointer_at, has}
use Rattle.format.proofs.Tests.{on-or-off, never, not_iff, same-on, same-iff, or-rest, and-iff, and-true, choose-true, choose-false}
use Rattle.format.proofs.Refusals.{then-rest, then-stays, row-refuses}
use Rattle.format.proofs.Chains.{on-last, ends}
use Rattle.format.proofs.Named.{has-head}
use Rattle.index.specs.Entries.{entry_place, entries_on}
use Rattle.index.proofs.Entries.{offsets-on}
use Rattle.checking.specs.declared.First.{First}
use Rattle.checking.specs.Checked.{entry_form, damaged, mark, looked_verdict, FirstLeft, FirstOn}
use Rattle.checking.proofs.Firsts.{first-at, first-same}
use Rattle.checking.proofs.Forms.{looked-at, passed_over}

module _ (img : List ℕ) (t : Opened) (looks : ℕ → Bool) where
  -- address a points into the block at b
  abbrev pub Into : ℕ → ℕ → Type 0
  Into b a = (looks a ≡ true) × ((pointer_at img t a).block.0 ≡ b)

  module _ (b : ℕ) (left : List ℕ) where
    into : (l : List ℕ) (a : ℕ) → Into b a → looked_verdict img t looks l a ≡ (entry_form img t a then mark img l b)
    into l a i = looked-at img t looks l a i.0 ∙ ap (λ (q : ℕ). entry_form img t a then mark img l q) i.1

    into-before : (a : ℕ) → Into b a → looked_verdict img t looks (b ∷ left) a ≡ entry_form img t a
    into-before a i = into (b ∷ left) a i ∙ sym (ends _ (on-last _ ((and-iff not_iff Iff.rfl).1 (inl (has-head b b left refl)))))

    elsewhere : (a : ℕ) → ¬ Into b a → looked_verdict img t looks (b ∷ left) a ≡ looked_verdict img t looks left a
    unfolding has
    elsewhere a away = ⊎_elim other (λ e. passed_over img t looks (b ∷ left) a e ∙ sym (passed_over img t looks left a e)) (on-or-off (looks a))
      where
        other : looks a ≡ true → looked_verdict img t looks (b ∷ left) a ≡ looked_verdict img t looks left a
        other e =
            looked-at img t looks (b ∷ left) a e
            ∙ ap (λ (h : Bool). entry_form img t a then row (not h and damaged img (pointer_at img t a).block.0) (refusal 27 (pointer_at img t a).block.0))
            (or-rest _ (same-iff.1 (λ q. away (e, sym q))))
            ∙ sym (looked-at img t looks left a e)

    into-or-not : (a : ℕ) → Into b a ⊎ ¬ Into b a
    into-or-not a =
        ⊎_elim
        (λ e. ⊎_elim (λ q. inl (e, sym (same-on _ _ q))) (λ q. inr (λ i. same-iff.0 q (sym i.1))) (on-or-off (same b (pointer_at img t a).block.0)))
        (λ e. inr (λ i. never i.0 e)) (on-or-off (looks a))

    -- a block that is not damaged, or that is still to be looked at
    pub not-marked : {first : First} → (not (has b left) and damaged img b) ≡ false → FirstLeft img t looks (b ∷ left) first → FirstLeft img t looks left first
    not-marked m = first-same _ _ _ (λ a l. ⊎_elim (λ i. into-before a i ∙ ends _ (on-last _ m) ∙ sym (into left a i)) (elsewhere a) (into-or-not a))

    -- a damaged block: its first address below the limit is the new limit
    pub found : damaged img b ≡ true → has b left ≡ false → {first : First} → FirstLeft img t looks (b ∷ left) first
        → (m : ℕ) → m < first.number.0 → Into b m → ((a : ℕ) → a < m → ¬ Into b a)
        → FirstLeft img t looks left (record { number = record { 0 = m }; verdict = Err (refusal 27 b) })
    found d h {first} p m l i away =
        let w : first.number.0 ≤ t.count = p.within in
        first-at _ _ m _ (omega arith) (λ a k. sym (elsewhere a (away a k)) ∙ p.before a (omega arith))
        (into left m i ∙ then-rest _ _ (sym (into-before m i) ∙ p.before m l) ∙ row-refuses _ _ (and-true _ _ (ap not h) d))

    -- none points into it
    pub stays : {first : First} → FirstLeft img t looks (b ∷ left) first → ((a : ℕ) → a < first.number.0 → ¬ Into b a) → FirstLeft img t looks left first
    stays {first} p away =
        record {
          within = p.within;
          before = λ a k. sym (elsewhere a (away a k)) ∙ p.before a k;
          here = λ k. let (h, ne) = p.here k in (keeps first.number.0 (λ e. ne (sym h ∙ e)) ∙ h, ne);
          none = p.none;
        }
      where
        keeps : (a : ℕ) → looked_verdict img t looks (b ∷ left) a ≢ Ok tt → looked_verdict img t looks left a ≡ looked_verdict img t looks (b ∷ left) a
        keeps a ne =
            ⊎_elim (λ i. into left a i ∙ then-stays _ _ (λ e. ne (into-before a i ∙ e)) ∙ sym (into-before a i)) (λ n. sym (elsewhere a n)) (into-or-not a)

  -- ---- one index entry more
  module _ (i : ℕ) {first : First} (h : i < entry_count img (index_offset img)) (f : FirstOn img t looks i first) where
    abbrev entry : Entry
    entry = entry_at img (entry_place (index_offset img) i)

    next : offsets_of DBLK (entries_on img (index_offset img) i)
        ≡ choose (is_user_data DBLK entry) (entry.offset.0 ∷ offsets_of DBLK (entries_on img (index_offset img) (i + 1))) (offsets_of DBLK (entries_on img (index_offset img) (i + 1)))
    next = offsets-on (is_user_data DBLK) img (index_offset img) i h

    pub other-entry : is_user_data DBLK entry ≡ false → FirstOn img t looks (i + 1) first
    other-entry e = subst (λ (l : List ℕ). FirstLeft img t looks l first) (next ∙ choose-false _ _ _ e) f

    pub block-entry : is_user_data DBLK entry ≡ true → FirstLeft img t looks (entry.offset.0 ∷ offsets_of DBLK (entries_on img (index_offset img) (i + 1))) first
    block-entry e = subst (λ (l : List ℕ). FirstLeft img t looks l first) (next ∙ choose-true _ _ _ e) f
