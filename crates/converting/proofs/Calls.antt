-- An export and an import write an image to the front of their buffer.
use mathlib.Core.List.{List, [], ◌++◌}
use mathlib.Core.Logic.{⊎_elim}
use mathlib.Core.Path.{◌≡◌, refl, sym, ap, ◌∙◌}
use Prim.Native.Nat.{ℕ, ◌<◌}
use native.Mathlib.Omega.{arith}
use lib.ListN.{length, replicate, length-replicate}
use Rattle.format.specs.Refusals.{Verdict}
use Rattle.fields.specs.Bytes.{overwrite}
use Rattle.format.specs.declared.Placed.{Placed}
use Rattle.format.specs.Layouts.{index_offset}
use Rattle.format.specs.Opening.{opened}
use Rattle.format.specs.Writing.{Outcome, outcome, placed}
use Rattle.format.specs.Exporting.{flat_file, exact_verdict, export_exact}
use Rattle.format.specs.Importing.{import}
use Rattle.format.specs.Demands.{OpeningNumber, ExportingNumber, ImportingNumber}
use Rattle.format.proofs.Buffers.{outcome-refuses}
use Rattle.format.proofs.Exporting as exporting
use Rattle.format.proofs.Composing.{image-length}
use Rattle.format.proofs.Importing as importing
use Rattle.format.proofs.Refusing.{demand-1-refusals}
use Rattle.text.specs.Text.{TOO-LONG, NEWLINE, longest_input}
use Rattle.converting.specs.Texts.{export_text, import_text}
use Rattle.converting.proofs.Fills.{Fills, long-text}

-- ---- two digits are enough
opening-small : (n : ℕ) → OpeningNumber n → n < 100
opening-small n = ⊎_elim (λ h. omega arith) (λ h. omega arith)

exporting-small : (n : ℕ) → ExportingNumber n → n < 100
exporting-small n = ⊎_elim (opening-small n) (⊎_elim (λ h. omega arith) (⊎_elim (λ h. omega arith) (λ h. omega arith)))

importing-small : (n : ℕ) → ImportingNumber n → n < 100
importing-small n = ⊎_elim (λ h. omega arith) (⊎_elim (λ h. omega arith) (⊎_elim (λ h. omega arith) (λ h. omega arith)))

blank-long : (n : ℕ) → length {A = ℕ} (replicate n 0) ≡ n
blank-long n = length-replicate {A = ℕ} n 0

-- ---- the calls
pub export-fills : (img : List ℕ) → Fills (λ n. n) (export_exact img)
unfolding export_exact
export-fills img =
    let o : ℕ = index_offset img in
    let file : List ℕ = flat_file img (opened img o) in
    record {
      verdict = λ n. exact_verdict img o (replicate n 0);
      value = length file;
      image = file;
      is = λ b. ap (λ (v : Verdict). outcome b v (length file) (overwrite b 0 file)) (exporting.verdict-alike img o b (replicate (length b) 0) (sym (blank-long (length b))));
      sized = λ n v. refl;
      room = λ n v. rw blank-long at ((exporting.exact-ok img o (replicate n 0)).0 v).file.room;
      few = λ n r v. exporting-small _ (demand-1-refusals.exporting_exactly img (replicate n 0) r ((outcome-refuses _ _ _ _ r).1 v)).0;
    }

pub import-fills : (file : List ℕ) (size : ℕ) (application : List ℕ) (major minor mediaType creationTime lastWrittenTime : ℕ)
    → Fills (λ (p : Placed). p.used) (λ (b : List ℕ). import b file size application major minor mediaType creationTime lastWrittenTime)
import-fills file size application major minor mediaType creationTime lastWrittenTime =
    let all : List ℕ → Verdict = λ (b : List ℕ). importing.whole_verdict b file size application major minor mediaType creationTime lastWrittenTime in
    let p : Placed = placed (importing.imported_used [] file size application major minor mediaType creationTime lastWrittenTime) (importing.imported_index [] file size application major minor mediaType creationTime lastWrittenTime) in
    let image : List ℕ = importing.imported_image [] file size application major minor mediaType creationTime lastWrittenTime in
    record {
      verdict = λ n. all (replicate n 0);
      value = p;
      image = image;
      is = λ b.
          importing.import-front b file size application major minor mediaType creationTime lastWrittenTime
          ∙ ap (λ (v : Verdict). outcome b v p (overwrite b 0 image))
          (importing.verdict-alike b (replicate (length b) 0) file size application major minor mediaType creationTime lastWrittenTime (sym (blank-long (length b))));
      sized = λ n v.
          let k = (importing.verdict-ok (replicate n 0) file size application major minor mediaType creationTime lastWrittenTime).0 v in
          sym (image-length _ _ _ _ _ _ _ _ _ _ _ (importing.composable k.0));
      room = λ n v.
          let k = (importing.verdict-ok (replicate n 0) file size application major minor mediaType creationTime lastWrittenTime).0 v in
          rw (image-length _ _ _ _ _ _ _ _ _ _ _ (importing.composable k.0)) (rw blank-long at k.1);
      few = λ n r v.
          importing-small _ (demand-1-refusals.importing (replicate n 0) file size application major minor mediaType creationTime lastWrittenTime r
          (ap (λ (w : Outcome Placed). w.result) (importing.import-is (replicate n 0) file size application major minor mediaType creationTime lastWrittenTime) ∙ (outcome-refuses _ _ _ _ r).1 v)).0;
    }

-- ---- a longer input
pub export-long : (input : List ℕ) → longest_input < length input → export_text input ≡ TOO-LONG ++ NEWLINE
unfolding export_text
export-long input h = long-text _ _ input h

pub import-long : (input : List ℕ) → longest_input < length input → import_text input ≡ TOO-LONG ++ NEWLINE
unfolding import_text
import-long input h = long-text _ _ input h
