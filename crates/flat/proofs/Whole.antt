-- The calls as wholes: their checks in order, and what they leave.
use mathlib.Core.List.{List}
use mathlib.Core.Logic.{inr}
use mathlib.Core.Path.{◌≡◌, sym, ap, ◌∙◌}
use Prim.Native.Nat.{ℕ, ◌*◌, ◌≤◌}
use native.Mathlib.Omega.{arith}
use lib.ListN.{length}
use Rattle.std.specs.Prelude.{Ok, Err}
use Rattle.fields.specs.Bytes.{overwrite}
use Rattle.format.specs.declared.Flat.{Flat}
use Rattle.format.specs.declared.Refusal.{Refusal}
use Rattle.format.specs.Tests.{same, differs, below, ◌and◌}
use Rattle.format.specs.Refusals.{refusal, row, ◌then◌, first_refusal, Answer, Verdict}
use Rattle.format.specs.Layouts.{index_offset, entries}
use Rattle.format.specs.Opening.{Opened, opened, open_verdict, opening}
use Rattle.format.specs.Reading.{sector_verdict}
use Rattle.format.specs.Writing.{Outcome, outcome}
use Rattle.format.specs.Committing.{sectors_verdict}
use Rattle.format.specs.Exporting.{flat_file, gap_count, file_verdict, exact_verdict, export_verdict, export_exact, flat, export}
use Rattle.format.specs.Answers.{answered}
use Rattle.format.proofs.Tests.{below-iff}
use Rattle.format.proofs.Refusals.{row-iff, then-rest, first_refusal-iff, answer-accepted, answer-refused}
use Rattle.format.proofs.Chains.{stops}
use Rattle.format.proofs.Checks.{sector-ok, address-ok}
use Rattle.format.proofs.Answers.{outcome-stops}
use Rattle.search.specs.Found.{Checked}
use Rattle.flat.specs.Exports.{Uniform}
use Rattle.flat.proofs.Sectors.{bytes-sized}

-- ---- the outcome of a chain whose first checks pass
pub outcome-rest : {A : Type 0} (out : List ℕ) {u : Verdict} (v : Verdict) (a : A) (new : List ℕ) {w : Outcome A} → Ok tt ≡ u → w ≡ outcome out v a new → w ≡ outcome out (u then v) a new
outcome-rest out v a new e h = h ∙ ap (λ (x : Verdict). outcome out x a new) (sym (then-rest _ v (sym e)))

-- ---- another value for the same outcome
module _ {A B : Type 0} (out new after : List ℕ) where
  value-accepted : (v : Verdict) (f : A → B) (a x : A) → answered (Ok a) after ≡ outcome out v x new → answered (Ok (f a)) after ≡ outcome out v (f x) new
  unfolding answered outcome
  value-accepted (Ok tt) f a x e =
      let r : ◌≡◌ {A = Answer A} (Ok a) (Ok x) = ap (λ (w : Outcome A). w.result) e in
      let p : a ≡ x = cc in
      let q : after ≡ new = ap (λ (w : Outcome A). w.buffer) e in
      λ i. record { result = Ok (f (p i)); buffer = q i }
  value-accepted (Err s) f a x e =
      let r : ◌≡◌ {A = Answer A} (Ok a) (Err s) = ap (λ (w : Outcome A). w.result) e in
      let z : ◌≡◌ {A = ℕ} 0 1 = cc in
      absurd (omega arith)

  value-refused : (v : Verdict) (r : Refusal) (x : A) (y : B) → answered (Err r) after ≡ outcome out v x new → answered (Err r) after ≡ outcome out v y new
  unfolding answered outcome
  value-refused (Ok tt) r x y e =
      let q : ◌≡◌ {A = Answer A} (Err r) (Ok x) = ap (λ (w : Outcome A). w.result) e in
      let z : ◌≡◌ {A = ℕ} 0 1 = cc in
      absurd (omega arith)
  value-refused (Err s) r x y e =
      let p : ◌≡◌ {A = Answer A} (Err r) (Err s) = ap (λ (w : Outcome A). w.result) e in
      let t : r ≡ s = cc in
      let q : after ≡ out = ap (λ (w : Outcome A). w.buffer) e in
      λ i. record { result = Err (t i); buffer = q i }

-- ---- 41, of a disc whose written sectors have one size, by its count and the size
module _ (img : List ℕ) (t : Opened) {size : ℕ} (u : Uniform img t size) {count : ℕ} (c : count ≡ t.count) where
  pub room-is : (out : List ℕ) {v : Verdict} → v ≡ row (below (length out) (count * size)) (refusal 41 0) → v ≡ file_verdict img t out
  unfolding file_verdict
  room-is out e =
      e ∙ ap (λ n. row (below (length out) n) (refusal 41 0)) (ap (λ n. n * size) c ∙ sym (bytes-sized img t size u)) ∙ sym (then-rest _ _ u.sizes)

  pub fits : (l : ℕ) → Ok tt ≡ row (below l (count * size)) (refusal 41 0) → t.count * size ≤ l
  fits l h = rw (← c) ((row-iff (refusal 41 0) below-iff).0 (sym h))

-- ---- where all sectors pass, 21 too, they pass but for 21
pub every-checked : (img : List ℕ) (t : Opened) → opening img ≡ Ok t
    → Ok tt ≡ first_refusal (sector_verdict img (entries img (index_offset img)) t) t.count 0 → Checked img t
unfolding sectors_verdict
every-checked img t e h =
    let good = (first_refusal-iff t.count t.count 0 (omega arith) (λ n l. sector-ok img (entries img (index_offset img)) t n)).0 (sym h) in
    (e, (first_refusal-iff t.count t.count 0 (omega arith) (λ n l. address-ok img (entries img (index_offset img)) t n)).1 (λ n l b. inr (good n l b)))

-- ---- of a disc that opened as t
module _ (img : List ℕ) (t : Opened) (e : opening img ≡ Ok t) (out : List ℕ) where
  abbrev o : ℕ
  o = index_offset img

  abbrev file : List ℕ
  file = flat_file img t

  -- what is behind opening's checks is about t
  opened-outcome : {A : Type 0} (rest : Opened → Verdict) (value : Opened → A) (new : Opened → List ℕ)
      → outcome out (rest t) (value t) (new t) ≡ outcome out (open_verdict img o then rest (opened img o)) (value (opened img o)) (new (opened img o))
  unfolding opening
  opened-outcome rest value new =
      let r = answer-accepted _ _ t e in
      sym (ap (λ (v : Verdict). outcome out v (value (opened img o)) (new (opened img o))) (then-rest _ _ r.0)
      ∙ ap (λ (u : Opened). outcome out (rest u) (value u) (new u)) r.1)

  pub exact-opened : outcome out (first_refusal (sector_verdict img (entries img o) t) t.count 0 then file_verdict img t out) (length file) (overwrite out 0 file) ≡ export_exact img out
  unfolding export_exact exact_verdict
  exact-opened =
      opened-outcome (λ u. first_refusal (sector_verdict img (entries img o) u) u.count 0 then file_verdict img u out) (λ u. length (flat_file img u))
      (λ u. overwrite out 0 (flat_file img u))

  abbrev blank : Opened → Verdict
  blank u = row (differs u.count 0 and same (gap_count img u) u.count) (refusal 21 0)

  pub export-opened : outcome out (sectors_verdict img (entries img o) t then (blank t then file_verdict img t out)) (flat (length file) (gap_count img t)) (overwrite out 0 file) ≡ export img out
  unfolding export export_verdict
  export-opened =
      opened-outcome (λ u. sectors_verdict img (entries img o) u then (blank u then file_verdict img u out)) (λ u. flat (length (flat_file img u)) (gap_count img u))
      (λ u. overwrite out 0 (flat_file img u))

  -- where the sectors pass and some are written, it is what both rules do then
  module _ (s : Ok tt ≡ sectors_verdict img (entries img o) t) (b : Ok tt ≡ blank t) (after : List ℕ) where
    whole : {w : Outcome Flat} → w ≡ outcome out (file_verdict img t out) (flat (length file) (gap_count img t)) (overwrite out 0 file) → w ≡ export img out
    whole h = outcome-rest out _ _ _ s (outcome-rest out _ _ _ b h) ∙ export-opened

    pub file-refused : (r : Refusal) → answered (Err r) after ≡ outcome out (file_verdict img t out) (length file) (overwrite out 0 file) → answered (Err r) after ≡ export img out
    file-refused r h = whole (value-refused out (overwrite out 0 file) after _ r _ _ h)

    pub file-exported : (n : ℕ) {filled : ℕ} → filled ≡ gap_count img t
        → answered (Ok n) after ≡ outcome out (file_verdict img t out) (length file) (overwrite out 0 file) → answered (Ok (flat n filled)) after ≡ export img out
    file-exported n g h =
        ap (λ k. answered (Ok (flat n k)) after) g ∙ whole (value-accepted out (overwrite out 0 file) after _ (λ m. flat m (gap_count img t)) n _ h)

-- ---- of one that does not open
module _ (img : List ℕ) (r : Refusal) (e : Err r ≡ opening img) (out : List ℕ) where
  pub exact-unopened : answered (Err r) out ≡ export_exact img out
  unfolding export_exact exact_verdict opening
  exact-unopened = outcome-stops out _ _ (stops _ (sym (answer-refused _ _ r (sym e))))

  pub export-unopened : answered (Err r) out ≡ export img out
  unfolding export export_verdict opening
  export-unopened = outcome-stops out _ _ (stops _ (sym (answer-refused _ _ r (sym e))))
