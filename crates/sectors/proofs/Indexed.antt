-- The search for a block among index entries, with `left` of them from place p on; b is what all entries give.
use mathlib.Core.Bool.{Bool, true, false}
use mathlib.Core.List.{List, ◌∷◌}
use mathlib.Core.Path.{◌≡◌, refl, sym, ap, ◌∙◌}
use Prim.Native.Nat.{ℕ, ◌+◌, ◌-◌, ◌<◌, ◌≤◌}
use Rattle.format.specs.Tests.{same, ◌or◌, ◌and◌, choose}
use Rattle.format.specs.Layouts.{entry_length, entry_at, entries_from}
use Rattle.format.specs.Opening.{is_user_data, offsets_of}
use Rattle.format.specs.Reading.{has}
use Rattle.format.proofs.Tests.{or-rest}
use Rattle.index.proofs.Entries.{offsets-next, offsets-done}

has-choose : (x y : ℕ) (l : List ℕ) (n : Bool) → has x (choose n (y ∷ l) l) ≡ ((n and same y x) or has x l)
unfolding has choose ◌and◌ ◌or◌
has-choose x y l true = refl
has-choose x y l false = refl

module _ (letters img : List ℕ) (left p x : ℕ) {b : Bool} (all : has x (offsets_of letters (entries_from img left p)) ≡ b) where
  next : 0 < left → has x (offsets_of letters (entries_from img left p))
      ≡ ((is_user_data letters (entry_at img p) and same (entry_at img p).offset.0 x) or has x (offsets_of letters (entries_from img (left - 1) (p + entry_length))))
  next h = ap (has x) (offsets-next (is_user_data letters) img left p h) ∙ has-choose x _ _ _

  pub indexed-found : 0 < left → (is_user_data letters (entry_at img p) and same (entry_at img p).offset.0 x) ≡ true → true ≡ b
  unfolding ◌or◌
  indexed-found h e = sym (next h ∙ rw e) ∙ all

  pub indexed-goes : 0 < left → (is_user_data letters (entry_at img p) and same (entry_at img p).offset.0 x) ≡ false
      → has x (offsets_of letters (entries_from img (left - 1) (p + entry_length))) ≡ b
  indexed-goes h e = sym (next h ∙ or-rest _ e) ∙ all

  pub indexed-done : left ≤ 0 → false ≡ b
  unfolding has
  indexed-done h = sym (ap (has x) (offsets-done (is_user_data letters) img left p h)) ∙ all
