-- A writing call on a buffer: its outcome by its verdict, and the image afterwards against the image before.
use mathlib.Core.List.{List}
use mathlib.Core.Logic.{inl, inr, ⊎_elim, ⊎_map, ◌↔◌}
use mathlib.Core.Path.{◌≡◌, refl, sym, ap, ◌∙◌}
use Prim.Native.Nat.{ℕ, ◌+◌, ◌^◌, ◌≤◌, ◌<◌}
use native.Mathlib.Nat.{le_refl}
use native.Mathlib.Omega.{arith}
use lib.ListN.{length, take, get_or, length-take}
use lib.Seq.{get_or-take, length-take-le}
use Rattle.format.specs.Refusals.{Verdict}
use Rattle.std.specs.Prelude.{Ok, Err}
use Rattle.fields.specs.Bytes.{to_le, overwrite}
use Rattle.fields.proofs.Numbers.{length-to_le}
use Rattle.fields.proofs.Overwrite.{length-overwrite, get_or-off, get_or-in, overwrite-inside}
use Rattle.fields.proofs.Holds.{Holds, holds-take, holds-overwrite, holds-all, holds-number}
use Rattle.format.specs.declared.Refusal.{Refusal}
use Rattle.format.specs.Lists.{IsBytes}
use Rattle.format.specs.Layouts.{header_length, index_offset_at, last_written_at, index_offset}
use Rattle.format.specs.Writing.{outcome, set_header}
use Rattle.format.specs.Demands.{Elsewhere, HeaderSet}
use Rattle.format.proofs.Agree.{KeptAt, Agree}
use Rattle.format.proofs.Bytes.{bytes-overwrite, bytes-to_le}

-- ---- outcomes
pub record Accepts {A : Type 0} (v : Verdict) (p q : A) (new after : List ℕ) : Type 0 where
  pub passes : v ≡ Ok tt
  pub answer : p ≡ q
  pub buffer : after ≡ new

pub outcome-accepted : {A : Type 0} (buffer : List ℕ) (v : Verdict) (p : A) (new : List ℕ) (q : A) → (outcome buffer v p new).result ≡ Ok q
    → Accepts v p q new (outcome buffer v p new).buffer
unfolding outcome
outcome-accepted buffer (Ok tt) p new q e = record { passes = refl; answer = cc; buffer = refl }
outcome-accepted buffer (Err r) p new q e = let z : ◌≡◌ {A = ℕ} 0 1 = cc in absurd (omega arith)

pub outcome-passes : {A : Type 0} (buffer : List ℕ) (v : Verdict) (p : A) (new : List ℕ) → v ≡ Ok tt → outcome buffer v p new ≡ record { result = Ok p; buffer = new }
unfolding outcome
outcome-passes buffer v p new e = rw e

pub outcome-accepts : {A : Type 0} (buffer : List ℕ) (v : Verdict) (p : A) (new : List ℕ) (q : A) → ((outcome buffer v p new).result ≡ Ok q) ↔ ((v ≡ Ok tt) × (p ≡ q))
unfolding outcome
outcome-accepts buffer v p new q = (
  (λ e. let k = outcome-accepted buffer v p new q e in (k.passes, k.answer)),
  λ (e, f). rw (e, f),
)

pub outcome-refused : {A : Type 0} (buffer : List ℕ) (v : Verdict) (p : A) (new : List ℕ) (r : Refusal) → (outcome buffer v p new).result ≡ Err r
    → (v ≡ Err r) × ((outcome buffer v p new).buffer ≡ buffer)
unfolding outcome
outcome-refused buffer (Ok tt) p new r e = let z : ◌≡◌ {A = ℕ} 0 1 = cc in absurd (omega arith)
outcome-refused buffer (Err s) p new r e = (cc, refl)

pub outcome-refuses : {A : Type 0} (buffer : List ℕ) (v : Verdict) (p : A) (new : List ℕ) (r : Refusal) → ((outcome buffer v p new).result ≡ Err r) ↔ (v ≡ Err r)
unfolding outcome
outcome-refuses buffer v p new r = ((λ e. (outcome-refused buffer v p new r e).0), λ e. rw e)

-- where it is refused, what it would have written makes no difference
pub outcome-new : {A : Type 0} (buffer : List ℕ) (v : Verdict) (p : A) (one other : List ℕ) → (v ≡ Ok tt → one ≡ other) → outcome buffer v p one ≡ outcome buffer v p other
unfolding outcome
outcome-new buffer (Ok tt) p one other h = ap (λ (l : List ℕ). record { result = Ok p; buffer = l }) (h refl)
outcome-new buffer (Err r) p one other h = refl

-- ---- the header's two fields
module _ (l : List ℕ) (o time : ℕ) where
  abbrev once : List ℕ
  once = overwrite l index_offset_at (to_le 8 o)

  pub length-set_header : length (set_header l o time) ≡ length l
  unfolding set_header
  length-set_header = length-overwrite once last_written_at (to_le 8 time) ∙ length-overwrite l index_offset_at (to_le 8 o)

  pub set_header-elsewhere : (p : ℕ) → Elsewhere p → get_or (set_header l o time) p 0 ≡ get_or l p 0
  unfolding set_header
  set_header-elsewhere p h =
      get_or-off once last_written_at (to_le 8 time) p
      (⊎_elim (λ b. inl (omega arith)) (⊎_elim (λ b. inl (omega arith)) (λ b. inr (omega (arith, length-to_le 8 time)))) h)
      ∙ get_or-off l index_offset_at (to_le 8 o) p
      (⊎_elim inl (⊎_elim (λ b. inr (omega (arith, length-to_le 8 o))) (λ b. inr (omega (arith, length-to_le 8 o)))) h)

  set_header-kept : (p : ℕ) → KeptAt p → get_or (set_header l o time) p 0 ≡ get_or l p 0
  set_header-kept p h = set_header-elsewhere p (⊎_map (λ b. b) inr h)

  set_header-holds : header_length ≤ length l → Holds (set_header l o time) index_offset_at (to_le 8 o)
  unfolding set_header
  set_header-holds long =
      record {
        fits = omega (arith, length-set_header, length-to_le 8 o);
        there = λ i h.
            get_or-off once last_written_at (to_le 8 time) (index_offset_at + i) (inl (omega (arith, length-to_le 8 o)))
            ∙ get_or-in l index_offset_at (to_le 8 o) i h (omega (arith, length-to_le 8 o));
      }

  set_header-time : header_length ≤ length l → Holds (set_header l o time) last_written_at (to_le 8 time)
  unfolding set_header
  set_header-time long = holds-overwrite once last_written_at (to_le 8 time) (omega (arith, length-overwrite l index_offset_at (to_le 8 o), length-to_le 8 time))

  pub header-set : header_length ≤ length l → HeaderSet (set_header l o time) o time
  header-set long =
      record {
        index_offset = rw (length-to_le 8 o) at (holds-all _ _ _ (set_header-holds long));
        lastWrittenTime = rw (length-to_le 8 time) at (holds-all _ _ _ (set_header-time long));
      }

  pub bytes-set_header : header_length ≤ length l → IsBytes l → IsBytes (set_header l o time)
  unfolding set_header
  bytes-set_header long h =
      bytes-overwrite once last_written_at (to_le 8 time) (omega (arith, length-overwrite l index_offset_at (to_le 8 o), length-to_le 8 time))
      (bytes-overwrite l index_offset_at (to_le 8 o) (omega (arith, length-to_le 8 o)) h (bytes-to_le 8 o)) (bytes-to_le 8 time)

-- of an image that stands at the front of a buffer
pub set_header-inside : (buffer image : List ℕ) (o time : ℕ) → header_length ≤ length image → length image ≤ length buffer
    → set_header (overwrite buffer 0 image) o time ≡ overwrite buffer 0 (set_header image o time)
unfolding set_header
set_header-inside buffer image o time h k =
    let once : List ℕ = overwrite image index_offset_at (to_le 8 o) in
    let l : length once ≡ length image = length-overwrite image index_offset_at (to_le 8 o) in
    ap (λ (b : List ℕ). overwrite b last_written_at (to_le 8 time)) (overwrite-inside buffer image index_offset_at (to_le 8 o) (omega (arith, length-to_le 8 o)) k)
    ∙ overwrite-inside buffer once last_written_at (to_le 8 time) (omega (arith, length-to_le 8 time)) (omega arith)

-- ---- the first n bytes of a buffer whose header was set
pub index_offset-set : (l : List ℕ) (n o time : ℕ) → header_length ≤ n → n ≤ length l → o < 256 ^ 8 → index_offset (take n (set_header l o time)) ≡ o
unfolding index_offset
index_offset-set l n o time h k b =
    let long : header_length ≤ length l = omega arith in
    holds-number (take n (set_header l o time)) index_offset_at 8 o
    (holds-take (set_header l o time) n index_offset_at (to_le 8 o) (set_header-holds l o time long) (omega (arith, length-to_le 8 o))) b

pub agree-set : (l : List ℕ) (n o time : ℕ) → n ≤ length l → Agree (take n l) (take n (set_header l o time))
agree-set l n o time k =
    let ln : length (take n l) ≡ n = length-take-le n l k in
    let lm : length (set_header l o time) ≡ length l = length-set_header l o time in
    record {
      longer = simp length-take (omega arith);
      bytes = λ p b c. get_or-take n l p 0 (omega arith) ∙ sym (set_header-kept l o time p b) ∙ sym (get_or-take n (set_header l o time) p 0 (omega arith));
    }

-- ---- an image to which a run was appended, and whose header was then set
module _ (l : List ℕ) (used : ℕ) (run : List ℕ) (o time : ℕ) where
  abbrev longer : List ℕ
  longer = overwrite l used run

  abbrev after : List ℕ
  after = set_header longer o time

  pub length-appended : length after ≡ length l
  length-appended = length-set_header longer o time ∙ length-overwrite l used run

  pub agree-append : used + length run ≤ length l → Agree (take used l) (take (used + length run) after)
  agree-append fits =
      let lu : length (take used l) ≡ used = length-take-le used l (omega arith) in
      record {
        longer = simp length-take (omega (arith, length-appended));
        bytes = λ p b c.
            get_or-take used l p 0 (omega arith) ∙ sym (set_header-kept longer o time p b ∙ get_or-off l used run p (inl (omega arith)))
            ∙ sym (get_or-take (used + length run) after p 0 (omega arith));
      }

  pub holds-appended : used + length run ≤ length l → header_length ≤ used → Holds (take (used + length run) after) used run
  holds-appended fits low =
      let h : Holds longer used run = holds-overwrite l used run fits in
      holds-take after (used + length run) used run
      (record { fits = omega (arith, length-appended); there = λ i b. set_header-kept longer o time (used + i) (inr (omega arith)) ∙ h.there i b }) (le_refl _)
