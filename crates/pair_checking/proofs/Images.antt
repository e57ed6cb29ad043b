-- What one image of a pair reads at an address, and the numbers that it refuses with.
use mathlib.Core.Bool.{true, false}
use mathlib.Core.List.{List}
use mathlib.Core.Logic.Iff
use mathlib.Core.Logic.{◌≢◌, ⊎_elim}
use mathlib.Core.Path.{◌≡◌, refl, sym, ap, ◌∙◌}
use Prim.Native.Nat.{ℕ, ◌+◌, ◌≤◌, ◌<◌}
use native.Mathlib.Omega.{arith}
use lib.IntN.{ℤ, pos, nat_abs}
use borrow.Author.Tests.{not-true}
use Rattle.std.specs.Prelude.{Ok, Err}
use Rattle.format.specs.declared.Entry.{Entry}
use Rattle.format.specs.declared.Refusal.{Refusal}
use Rattle.format.specs.Refusals.{refusal}
use Rattle.format.specs.Layouts.{index_offset, entries}
use Rattle.format.specs.Opening.{Opened, opening, sector_count}
use Rattle.format.specs.Reading.{displaced, outside, entry_number, not_written, sector_verdict, address_verdict, read_verdict}
use Rattle.format.proofs.Tests.{below_on, below_true, and-on, and-true}
use Rattle.format.proofs.Refusals.{row-iff, row-refuses, then-rest, then-refuses, answer-refuses, answer-refused, says-refused}
use Rattle.format.proofs.Checks.{verdict-opened, sector-numbers}
use Rattle.format.proofs.Numbers.{Numbered, inside-number, number-inside, number_is, address-displaced, displaced-same, inside-flat}
use Rattle.format.proofs.Refusing.{demand-1-refusals}
use Rattle.format.proofs.Overlaying.{read_by}
use Rattle.opening.proofs.Accepted.{opens, opened-is}
use Rattle.checking.specs.Checked.{address_of, leaves}

-- ---- by the number of its table entry
module _ (img : List ℕ) (t : Opened) (e : opening img ≡ Ok t) (a : ℤ) where
  by_address : read_by img a ≡ address_verdict img (entries img (index_offset img)) t a
  by_address = verdict-opened img (index_offset img) (opens img t e) a ∙ ap (λ (u : Opened). address_verdict img (entries img (index_offset img)) u a) (opened-is img t e)

  pub read-entry : (n : ℕ) → Numbered t a n → read_by img a ≡ sector_verdict img (entries img (index_offset img)) t n
  unfolding address_verdict
  read-entry n k =
      by_address ∙ then-rest _ _ ((row-iff (refusal 20 0) Iff.rfl).1 (number-inside t a n k))
      ∙ ap (sector_verdict img (entries img (index_offset img)) t) (number_is t a n k)

  pub read-outside : outside t a ≡ true → read_by img a ≡ Err (refusal 20 0)
  unfolding address_verdict
  read-outside h = by_address ∙ then-refuses _ _ _ (row-refuses _ _ h)

pub read-unopened : (img : List ℕ) (r : Refusal) (a : ℤ) → opening img ≡ Err r → read_by img a ≡ Err r
unfolding opening read_verdict
read-unopened img r a e = then-refuses _ _ _ (answer-refused _ _ r e)

-- ---- the numbers that a parent's refusals have which come back with 100 added
abbrev pub Added : Refusal → Type 0
Added r = (r.number ≢ 20) × (r.number ≢ 21) × (r.number ≤ 73)

pub opening-added : (img : List ℕ) (r : Refusal) → opening img ≡ Err r → Added r
unfolding opening sector_count
opening-added img r e =
    ⊎_elim (λ f. ((λ z. omega (arith, f, z)), (λ z. omega (arith, f, z)), omega (arith, f))) (λ f. ((λ z. omega (arith, f, z)), (λ z. omega (arith, f, z)), omega (arith, f)))
    (demand-1-refusals.counting img r (answer-refuses _ _ r (answer-refused _ _ r e))).0

pub sector-added : (img : List ℕ) (es : List Entry) (t : Opened) (n : ℕ) (r : Refusal) → sector_verdict img es t n ≡ Err r → r.number ≢ 21 → Added r
sector-added img es t n r e d = let k = says-refused _ _ r (sector-numbers img es t n) e in ((λ z. omega (arith, k, z)), d, k.1)

-- ---- a parent's table entries rise with their addresses: that of address n is n + `negative`
module _ (u : Opened) where
  pub inside-up : (n : ℕ) → outside u (pos n) ≡ false → Numbered u (pos n) (n + u.negative)
  unfolding entry_number displaced
  inside-up n h = inside-number u (pos n) h

  pub numbered-up : (n k : ℕ) → k ≡ n + u.negative → k < u.count → Numbered u (pos n) k
  unfolding displaced
  numbered-up n k e l = record { is = ap pos (sym e); inside = l }

  address-up : (k n : ℕ) → address_of u k ≡ pos n → k ≡ n + u.negative
  unfolding displaced
  address-up k n e = ap nat_abs (sym (address-displaced u (pos n) (pos k) (sym e)))

  up-address : (n : ℕ) → address_of u (n + u.negative) ≡ pos n
  unfolding displaced
  up-address n = displaced-same u _ (pos n) (address-displaced u _ (pos (n + u.negative)) refl)

-- ---- what the child leaves to its parent, where the child's lowest address is 0
module _ (t : Opened) (flat : t.negative ≡ 0) where
  pub number-flat : (n : ℕ) → n < t.count → Numbered t (pos n) n
  number-flat n l = numbered-up t n n (omega (arith, flat)) l

  module _ (child : List ℕ) (limit : ℕ) (u : Opened) where
    pub left-on : (k : ℕ) → leaves child t limit u k ≡ true
        → let n = entry_number t (address_of u k) in (k ≡ n + u.negative) × (n < limit) × (not_written child t n ≡ true)
    unfolding leaves
    left-on k h =
        let (i, w) = and-on _ _ h in
        let (b, g) = and-on _ _ w in
        (address-up u k _ (inside-flat t flat (address_of u k) (not-true _ i)), below_on _ _ b, g)

    pub left-true : (n : ℕ) → n < t.count → n < limit → not_written child t n ≡ true → leaves child t limit u (n + u.negative) ≡ true
    unfolding leaves
    left-true n l b g =
        let k = number-flat n l in
        rw (up-address u n, number-inside t (pos n) n k, number_is t (pos n) n k) (and-true _ _ refl (and-true _ _ (below_true _ _ b) g))
