-- The first sector of a pair that is refused other than with 21, by those of its two images.
use mathlib.Core.Bool.{true}
use mathlib.Core.List.{List}
use mathlib.Core.Logic.{◌≢◌, ⊎_elim}
use mathlib.Core.Path.{◌≡◌, refl, sym, ap, ◌∙◌}
use Prim.Native.Nat.{ℕ, ◌+◌, ◌≤◌, ◌<◌}
use native.Mathlib.Nat.{eq-or-lt_of_le}
use native.Mathlib.Omega.{arith}
use lib.IntN.{pos}
use Rattle.std.specs.Prelude.{Ok, Err, IsErrAnd, MatchResult}
use Rattle.format.specs.declared.Entry.{Entry}
use Rattle.format.specs.declared.Refusal.{Refusal}
use Rattle.format.specs.declared.TableKind.TheVariants.{First as first_kind}
use Rattle.format.specs.Tests.{same}
use Rattle.format.specs.Refusals.{refusal, first_refusal, Verdict}
use Rattle.format.specs.Layouts.{index_offset, entries}
use Rattle.format.specs.Opening.{Opened, opening}
use Rattle.format.specs.Reading.{outside, entry_number, not_written, sector_verdict}
use Rattle.format.specs.Committing.{other_than_21}
use Rattle.format.specs.Overlaying.{parent_refusal}
use Rattle.format.specs.Flattening.{pair_verdict}
use Rattle.format.proofs.Tests.{on-or-off, never, same-iff, same-on, same_true, choose-true, choose-false}
use Rattle.format.proofs.Refusals.{not-passes, Gives}
use Rattle.format.proofs.Checks.{keeps-others, sector-ok, sector-21, address-ok}
use Rattle.format.proofs.Overlaying.{parent-20, parent-21, parent-other, parent_verdict, over_verdict, over-verdict-other, over-verdict-21, read_by, both_by}
use Rattle.format.proofs.Flattening.{pair-verdict}
use Rattle.opening.proofs.Accepted.{opened-is}
use Rattle.pairs.proofs.Sectors.{first-lowest}
use Rattle.checking.specs.declared.First.{First}
use Rattle.checking.specs.Checked.{address_of, leaves, IsFirst, FirstOfAll, FirstRefused, FirstWithin}
use Rattle.checking.proofs.Firsts.{first-at, first-refusal}
use Rattle.checking.proofs.Whole.{kept}
use Rattle.pair_checking.proofs.Images.{read-entry, read-outside, read-unopened, Added, opening-added, sector-added, inside-up, number-flat, numbered-up, left-on, left-true}

-- ---- a verdict but for 21
as_passed : (r : Refusal) → r.number ≡ 21 → other_than_21 (Err r) ≡ Ok tt
unfolding other_than_21
as_passed r e = choose-true _ _ _ (same_true _ _ e)

-- what it still refuses with
refused-by : (v : Verdict) (r : Refusal) → other_than_21 v ≡ Err r → (v ≡ Err r) × (r.number ≢ 21)
refused-by v r e =
    let k : v ≡ Err r = kept v (λ z. not-passes (sym e ∙ z)) ∙ e in (k, λ n. not-passes (sym e ∙ ap other_than_21 k ∙ as_passed r n))

-- ---- the pair's, by the child's
over-kept : (v w : Verdict) → other_than_21 v ≢ Ok tt → other_than_21 (over_verdict v w) ≡ other_than_21 v
unfolding other_than_21
over-kept (Ok tt) w h = absurd (h refl)
over-kept (Err r) w h = ap other_than_21 (over-verdict-other r w (λ n. h (as_passed r n)))

-- ---- by the parent's
parent-kept : (r : Refusal) → Added r → other_than_21 (parent_verdict (Err r)) ≡ Err (parent_refusal r)
unfolding parent_verdict Gives
parent-kept r a =
    let e : (parent_refusal r).number ≡ 100 + r.number = ap (λ (q : Refusal). q.number) (parent-other r a.0 a.1) in
    keeps-others (Err (parent_refusal r)) (λ z. omega (arith, e, z))

parent-passed : (w : Verdict) → other_than_21 w ≡ Ok tt → other_than_21 (parent_verdict w) ≡ Ok tt
unfolding parent_verdict Gives
parent-passed (Ok tt) h = h
parent-passed (Err r) h =
    ⊎_elim (λ n. ap (λ (q : Refusal). other_than_21 (Err q)) (parent-21 r (same-on _ _ n)) ∙ as_passed (refusal 21 0) refl)
    (λ n. absurd (not-passes (sym (keeps-others (Err r) (same-iff.0 n)) ∙ h))) (on-or-off (same r.number 21))

outside-passed : other_than_21 (parent_verdict (Err (refusal 20 0))) ≡ Ok tt
unfolding parent_verdict
outside-passed = ap (λ (q : Refusal). other_than_21 (Err q)) (parent-20 (refusal 20 0) refl) ∙ as_passed (refusal 21 0) refl

-- ---- a verdict of the parent's, with its refusal as the pair gives it
abbrev HandedOn : Verdict → Verdict → Type 0
HandedOn v w = MatchResult v (λ x. w ≡ Ok x) (λ (r : Refusal). IsErrAnd w (λ (q : Refusal). q ≡ parent_refusal r))

handed-refusal : (v : Verdict) (q : Refusal) → HandedOn v (Err q) → (r : Refusal) × (v ≡ Err r) × (q ≡ parent_refusal r)
handed-refusal (Ok tt) q h = absurd (not-passes h)
handed-refusal (Err r) q h = (r, refl, h)

handed-pass : (v : Verdict) → HandedOn v (Ok tt) → v ≡ Ok tt
handed-pass (Ok tt) h = refl
handed-pass (Err r) h = absurd h

-- ---- the child is opened as t, whose addresses are its table entries' numbers
module _ (child parent : List ℕ) (t : Opened) (e : opening child ≡ Ok t) (kind : t.kind ≡ first_kind) where
  abbrev es : List Entry
  es = entries child (index_offset child)

  flat : t.negative ≡ 0
  flat = first-lowest child t e kind

  -- the pair's sector n, and the parent's where the child has not written
  abbrev sector : ℕ → Verdict
  sector n = other_than_21 (both_by child parent (pos n))

  abbrev under : ℕ → Verdict
  under n = other_than_21 (parent_verdict (read_by parent (pos n)))

  sector-is : (n : ℕ) → n < t.count → sector n ≡ other_than_21 (over_verdict (sector_verdict child es t n) (read_by parent (pos n)))
  sector-is n l =
      ap (λ (v : Verdict). other_than_21 (over_verdict v (read_by parent (pos n)))) (read-entry child t e (pos n) n (number-flat t flat n l))

  sector-left : (n : ℕ) → n < t.count → not_written child t n ≡ true → sector n ≡ under n
  sector-left n l g =
      sector-is n l
      ∙ ap other_than_21
      (ap (λ (v : Verdict). over_verdict v (read_by parent (pos n))) (sector-21 child es t n g) ∙ over-verdict-21 (refusal 21 0) (read_by parent (pos n)) refl)

  pair-first : {first : First} → IsFirst sector t.count first → first.verdict ≡ pair_verdict child parent
  pair-first {first} k =
      sym
      (pair-verdict child parent ∙ ap (λ (u : Opened). first_refusal sector u.count 0) (opened-is child t e)
      ∙ first-refusal sector t.count first k)

  -- the child's first
  module _ {own : First} (p : FirstRefused child t own) where
    abbrev Passed : ℕ → Type 0
    Passed n = not_written child t n ≡ true → under n ≡ Ok tt

    below-passes : (n : ℕ) → n < own.number.0 → Passed n → sector n ≡ Ok tt
    unfolding other_than_21 over_verdict
    below-passes n l h =
        let b : n < t.count = omega (arith, l, p.within) in
        ⊎_elim (λ g. sector-left n b g ∙ h g)
        (λ k. sector-is n b ∙ ap (λ (v : Verdict). other_than_21 (over_verdict v (read_by parent (pos n)))) ((sector-ok child es t n).1 k))
        ((address-ok child es t n).0 (p.before n l))

    -- where nothing below it is refused of the parent
    own_first : ((n : ℕ) → n < own.number.0 → Passed n) → own.verdict ≡ pair_verdict child parent
    own_first h =
        pair-first
        (record {
          within = p.within;
          before = λ n l. below-passes n l (h n l);
          here = λ l. let (q, ne) = p.here l in (sector-is _ l ∙ over-kept _ _ (λ z. ne (sym q ∙ z)) ∙ q, ne);
          none = p.none;
        })

    -- a sector below it that the parent refuses
    parent-first : (n : ℕ) (r : Refusal) → n < own.number.0 → not_written child t n ≡ true → read_by parent (pos n) ≡ Err r → Added r
        → ((i : ℕ) → i < n → Passed i) → Err (parent_refusal r) ≡ pair_verdict child parent
    parent-first n r l g q a h =
        let b : n < t.count = omega (arith, l, p.within) in
        pair-first
        (first-at sector t.count n (parent_refusal r) b (λ i k. below-passes i (omega arith) (h i k))
        (sector-left n b g ∙ ap (λ (v : Verdict). other_than_21 (parent_verdict v)) q ∙ parent-kept r a))

    -- ---- the parent does not open: the first that the child has not written
    module _ (r : Refusal) (q : opening parent ≡ Err r) {gap : First} (f : FirstOfAll child t gap) where
      written_below : (n : ℕ) → n < gap.number.0 → Passed n
      written_below n l g = absurd (never g ((sector-ok child es t n).0 (f.before n l)).written)

      pub gap-refused : gap.number.0 < own.number.0 → Err (parent_refusal r) ≡ pair_verdict child parent
      gap-refused l =
          let n = gap.number.0 in
          let (s, ne) = f.here (omega (arith, l, p.within)) in
          let g : not_written child t n ≡ true = ⊎_elim (λ w. w) (λ k. absurd (ne (sym s ∙ (sector-ok child es t n).1 k))) ((address-ok child es t n).0 (p.before n l)) in
          parent-first n r l g (read-unopened parent r (pos n) q) (opening-added parent r q) written_below

      pub no-gap-refused : own.number.0 ≤ gap.number.0 → own.verdict ≡ pair_verdict child parent
      no-gap-refused l = own_first (λ n k. written_below n (omega arith))

    -- ---- it opens as u: the first of those that the child leaves to it
    module _ (u : Opened) (q : opening parent ≡ Ok u) {other : First} (f : FirstWithin parent u (leaves child t own.number.0 u) other) where
      abbrev parent_es : List Entry
      parent_es = entries parent (index_offset parent)

      passed-below : (n : ℕ) → n < own.number.0 → (n + u.negative < u.count → n + u.negative < other.number.0) → Passed n
      passed-below n l h g =
          ⊎_elim (λ o. ap (λ (v : Verdict). other_than_21 (parent_verdict v)) (read-outside parent u q (pos n) o) ∙ outside-passed)
          (λ o.
          let k = inside-up u n o in
          let w = left-true t flat child own.number.0 u n (omega (arith, l, p.within)) l g in
          ap (λ (v : Verdict). other_than_21 (parent_verdict v)) (read-entry parent u q (pos n) _ k)
          ∙ parent-passed (sector_verdict parent parent_es u (n + u.negative)) (sym (choose-true _ _ _ w) ∙ f.before _ (h k.inside)))
          (on-or-off (outside u (pos n)))

      -- a sector that is refused
      module _ (r : Refusal) (v : other.verdict ≡ Err r) where
        abbrev m : ℕ
        m = other.number.0

        found : (m < u.count) × (leaves child t own.number.0 u m ≡ true) × (sector_verdict parent parent_es u m ≡ Err r) × (r.number ≢ 21)
        found =
            let l : m < u.count = ⊎_elim (λ z. absurd (not-passes (sym v ∙ f.none z))) (λ k. k) (eq-or-lt_of_le f.within) in
            let h = (f.here l).0 ∙ v in
            ⊎_elim (λ w. let k = refused-by _ r (sym (choose-true _ _ _ w) ∙ h) in (l, w, k.0, k.1)) (λ w. absurd (not-passes (sym h ∙ choose-false _ _ _ w)))
            (on-or-off (leaves child t own.number.0 u m))

        pub found-added : Added r
        found-added = sector-added parent parent_es u m r found.2 found.3

        pub left-refused : Err (parent_refusal r) ≡ pair_verdict child parent
        left-refused =
            let (l, w, s, d) = found in
            let n = entry_number t (address_of u m) in
            let (up, b, g) = left-on t flat child own.number.0 u m w in
            parent-first n r b g (read-entry parent u q (pos n) m (numbered-up u n m up l) ∙ s) found-added (λ i k. passed-below i (omega arith) (λ z. omega arith))

      pub left-handed : (q : Refusal) → HandedOn other.verdict (Err q) → Err q ≡ pair_verdict child parent
      left-handed q h = let (r, v, k) = handed-refusal other.verdict q h in ap Err k ∙ left-refused r v

      pub none-refused : HandedOn other.verdict (Ok tt) → own.verdict ≡ pair_verdict child parent
      none-refused h =
          let v = handed-pass other.verdict h in
          own_first (λ n l. passed-below n l (λ k. ⊎_elim (λ z. omega arith) (λ z. absurd ((f.here z).1 v)) (eq-or-lt_of_le f.within)))
