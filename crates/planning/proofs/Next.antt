-- Whether a table entry is that of the next address of a commit's list, by comparing its address.
use mathlib.Core.Bool.{true, false}
use mathlib.Core.List.{List}
use mathlib.Core.Logic.{⊎_elim}
use mathlib.Core.Path.{◌≡◌, sym, ap, ◌∙◌}
use Prim.Native.Nat.{ℕ, ◌^◌, ◌≤◌, ◌<◌}
use native.Mathlib.Omega.{arith}
use lib.Dec.{eqb}
use lib.IntN.{ℤ, pos, neg_ℤ, nat_abs, ◌+ℤ◌}
use lib.ListN.{length, get_or, drop_of_length-le}
use lib.Seq.{drop-cons}
use lib.Signed.{mag}
use mir.Syntax.{w64}
use mir.Val.{SFits, to_z, of_z}
use mir.Facts.{to_z-of_z}
use Rattle.format.specs.Tests.{same}
use Rattle.format.specs.Opening.{Opened}
use Rattle.format.specs.Reading.{displaced, entry_number}
use Rattle.format.specs.Committing.{any_outside, entry_numbers}
use Rattle.format.proofs.Tests.{on-or-off, same-on, same_true, same-iff}
use Rattle.format.proofs.Lists.{all-get}
use Rattle.format.proofs.Addresses.{inside-each, length-numbers, number_at}
use Rattle.format.proofs.Numbers.{inside-number, address-displaced, displaced-same}
use Rattle.fields.proofs.Signs.{read_back}
use Rattle.opening.proofs.Accepted.{few}
use Rattle.planning.specs.Plans.{heads, is_next, Commits}

module _ (t : Opened) (l : List ℤ) (k n : ℕ) where
  pub next_past : length l ≤ k → false ≡ is_next (entry_numbers t l) k n
  unfolding is_next heads
  next_past h = sym (ap (λ (m : List ℕ). heads m n) (drop_of_length-le (entry_numbers t l) {i = k} (rw (length-numbers t l) h)))

  -- y is the address of table entry n; both are compared by their bits
  module _ (h : k < length l) (inside : any_outside t l ≡ false) (y : ℤ) (is : y ≡ neg_ℤ (pos t.negative) +ℤ pos n) where
    abbrev x : ℤ
    x = get_or l k (pos 0)

    -- the table entry of x is n exactly if x is y
    number-x : displaced t x ≡ pos (entry_number t x)
    number-x = (inside-number t x (all-get (pos 0) (inside-each t l inside) k h)).is

    same_address : entry_number t x ≡ n → x ≡ y
    same_address e = displaced-same t x y (number-x ∙ ap pos e ∙ sym (address-displaced t y (pos n) is))

    same_number : x ≡ y → entry_number t x ≡ n
    unfolding entry_number
    same_number e = ap nat_abs (ap (displaced t) e ∙ address-displaced t y (pos n) is)

    pub next-at : mag x < 2 ^ 63 → SFits w64 y → eqb (of_z w64 x) (of_z w64 y) ≡ is_next (entry_numbers t l) k n
    unfolding is_next heads same
    next-at f g =
        let d = drop-cons (entry_numbers t l) k 0 (rw (length-numbers t l) h) in
        let bits : of_z w64 x ≡ of_z w64 y → x ≡ y = λ e. sym (read_back x f) ∙ ap (to_z w64) e ∙ to_z-of_z g in
        ⊎_elim (λ (e : same (entry_number t x) n ≡ true). same_true _ _ (ap (of_z w64) (same_address (same-on _ _ e))) ∙ sym e)
        (λ (e : same (entry_number t x) n ≡ false). same-iff.1 (λ b. same-iff.0 e (same_number (bits b))) ∙ sym e)
        (on-or-off (same (entry_number t x) n))
        ∙ sym (ap (λ (m : List ℕ). heads m n) d ∙ ap (λ m. eqb m n) (number_at t l k h))

-- the number of a table entry is small, as its table lies in the image
pub entry-small : {img : List ℕ} {t : Opened} {addresses : List ℕ} {size : ℕ} {sectors : List ℕ} {n : ℕ} → Commits img t addresses size sectors → n < t.count
    → n < 2 ^ 63
entry-small c h = omega (arith, few _ _ c.checked.0, c.short)
