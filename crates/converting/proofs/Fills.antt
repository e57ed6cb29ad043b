-- A call that writes an image to the front of a lent buffer: what is shown of it does not depend on what the buffer held.
use mathlib.Core.List.{List, ◌++◌}
use mathlib.Core.Path.{◌≡◌, refl, sym, ap, ◌∙◌}
use Prim.Native.Nat.{ℕ, ◌≤◌, ◌<◌}
use native.Mathlib.Omega.{arith}
use lib.ListN.{length, take, length-replicate}
use Rattle.std.specs.Prelude.{Ok, Err}
use Rattle.fields.specs.Bytes.{overwrite}
use Rattle.format.specs.declared.Refusal.{Refusal}
use Rattle.format.specs.Refusals.{Answer, Verdict}
use Rattle.format.specs.Writing.{Outcome, outcome}
use Rattle.format.specs.Answers.{answered}
use Rattle.format.proofs.Buffers.{outcome-accepted, outcome-refused}
use Rattle.format.proofs.Exporting.{front}
use Rattle.text.specs.Buffer.{Writes, Prints}
use Rattle.text.specs.Text.{TOO-LONG, NEWLINE, refused_line, longest_input}
use Rattle.text.proofs.Decimal.{length-refused}
use Rattle.text.proofs.Writes.{unless-long, unless-short, writes-prints}
use Rattle.converting.specs.Texts.{shown, text, zeros}

-- its checks look at the buffer's length alone, and the image is no longer than that; its refusals have two digits
pub record Fills {A : Type 0} (size : A → ℕ) (call : List ℕ → Outcome A) : Type 0 where
  pub verdict : ℕ → Verdict
  pub value : A
  pub image : List ℕ
  pub is : (buffer : List ℕ) → call buffer ≡ outcome buffer (verdict (length buffer)) value (overwrite buffer 0 image)
  pub sized : (n : ℕ) → verdict n ≡ Ok tt → size value ≡ length image
  pub room : (n : ℕ) → verdict n ≡ Ok tt → length image ≤ n
  pub few : (n : ℕ) (r : Refusal) → verdict n ≡ Err r → r.number < 100

-- a longer input
pub long-text : {A : Type 0} (size : A → ℕ) (o : Outcome A) (input : List ℕ) → longest_input < length input → text size input o ≡ TOO-LONG ++ NEWLINE
unfolding text
long-text size o input h = unless-long input _ h

module _ {A : Type 0} {size : A → ℕ} {call : List ℕ → Outcome A} (f : Fills size call) (input : List ℕ) (h : length input ≤ longest_input) where
  abbrev blank : List ℕ
  blank = zeros 65536

  text-is : text size input (call blank) ≡ shown size (outcome blank (f.verdict 65536) f.value (overwrite blank 0 f.image)).result (outcome blank (f.verdict 65536) f.value (overwrite blank 0 f.image)).buffer
  unfolding text
  text-is =
      unless-short input _ h
      ∙ ap (λ (o : Outcome A). shown size o.result o.buffer) (f.is blank ∙ ap (λ n. outcome blank (f.verdict n) f.value (overwrite blank 0 f.image)) (length-replicate {A = ℕ} 65536 0))

  passes-text : f.verdict 65536 ≡ Ok tt → text size input (call blank) ≡ f.image
  unfolding outcome shown
  passes-text v =
      text-is ∙ (rw v refl) ∙ ap (λ n. take n (overwrite blank 0 f.image)) (f.sized 65536 v)
      ∙ front f.image blank (omega (arith, f.room 65536 v, length-replicate {A = ℕ} 65536 0))

  refuses-text : (r : Refusal) → f.verdict 65536 ≡ Err r → text size input (call blank) ≡ refused_line r.number
  unfolding outcome shown
  refuses-text r v = text-is ∙ (rw v refl)

  module _ {buffer : List ℕ} (long : length buffer ≡ 65536) where
    by-verdict : call buffer ≡ outcome buffer (f.verdict 65536) f.value (overwrite buffer 0 f.image)
    by-verdict = f.is buffer ∙ ap (λ n. outcome buffer (f.verdict n) f.value (overwrite buffer 0 f.image)) long

    pub prints-image : {u : Answer A} (a : A) {after : List ℕ} → u ≡ Ok a → answered u after ≡ call buffer → Prints buffer (text size input (call blank)) after (size a)
    unfolding answered
    prints-image a {after} q e =
        let w = (rw q at e) ∙ by-verdict in
        let k = outcome-accepted buffer (f.verdict 65536) f.value (overwrite buffer 0 f.image) a (ap (λ (o : Outcome A). o.result) (sym w)) in
        rw (passes-text k.passes)
        (record {
          bytes = ap (λ (o : Outcome A). o.buffer) w ∙ k.buffer;
          whole = ap size (sym k.answer) ∙ f.sized 65536 k.passes;
          room = rw long (f.room 65536 k.passes);
        })

    pub prints-refusal : {u : Answer A} (r : Refusal) {middle after : List ℕ} {n : ℕ} → u ≡ Err r → answered u middle ≡ call buffer
        → Writes middle 0 (refused_line r.number) after n → Prints buffer (text size input (call blank)) after n
    unfolding answered
    prints-refusal r {middle} {after} {n} q e w =
        let v = (rw q at e) ∙ by-verdict in
        let k = outcome-refused buffer (f.verdict 65536) f.value (overwrite buffer 0 f.image) r (ap (λ (o : Outcome A). o.result) (sym v)) in
        let m : middle ≡ buffer = ap (λ (o : Outcome A). o.buffer) v ∙ k.1 in
        rw (refuses-text r k.0) (writes-prints (omega (arith, length-refused 1 r.number (f.few 65536 r k.0))) (rw m at w))
