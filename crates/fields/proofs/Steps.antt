-- A count or a place that goes up by one: what a loop over it has left. Assumes nothing.
use mathlib.Core.Path.{◌≡◌}
use mathlib.Core.List.{List, ◌∷◌}
use Prim.Native.Nat.{ℕ, suc, ◌+◌, ◌-◌, ◌≤◌, ◌<◌}
use native.Mathlib.Numerals.{add-one}
use native.Mathlib.Omega.{arith}
use lib.ListN.{length, drop, get_or}
use lib.Seq.{drop-cons}

pub sub-step : (i n : ℕ) → i < n → n - i ≡ suc (n - (i + 1))
sub-step i n h = omega arith

pub sub-done : (i n : ℕ) → n ≤ i → n - i ≡ 0
sub-done i n h = omega arith

pub drop-step : (s : List ℕ) (i : ℕ) → i < length s → drop i s ≡ get_or s i 0 ∷ drop (i + 1) s
drop-step s i h = rw (add-one, drop-cons s i 0)
