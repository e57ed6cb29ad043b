-- 4/13: a flat file that is imported and exported again, and a disc that is exported and imported again.
use mathlib.Core.List.{List}
use mathlib.Core.Logic.{⊎_elim}
use mathlib.Core.Path.{sym, ap, ◌∙◌}
use Prim.Native.Nat.{ℕ, ◌%◌}
use native.Mathlib.Nat.{mul-mod_left, mul-le-mul_right}
use native.Mathlib.Omega.{arith}
use lib.ListN.{take}
use lib.IntN.{ℤ, ◌+ℤ◌, +ℤ_idl}
use Rattle.format.specs.Reading.{read}
use Rattle.format.specs.Exporting.{export_exact}
use Rattle.format.specs.Importing.{import}
use Rattle.format.specs.Demands.{ImportedExported, ExportedImported}
use Rattle.format.proofs.Exporting.{flat_back, flat-alike, flat-sized}
use Rattle.format.proofs.Importing.{Importable, file-count, imported_used, import-or-full, flat-importing}

-- ---- imported, then exported
pub imported-exported : ImportedExported
imported-exported buffer bb file size application ba major minor mediaType creationTime lastWrittenTime p e out room =
    flat_back _ file size (flat-importing buffer bb file size application ba major minor mediaType creationTime lastWrittenTime p e).flat out room

-- ---- exported, then imported
pub exported-imported : ExportedImported
exported-imported img out n e size f count small buffer bb long application ba sized major minor mediaType creationTime lastWrittenTime room =
    let file : List ℕ = take n (export_exact img out).buffer in
    let k : Importable buffer file size application =
    record {
      long = long;
      some = flat-sized img file size f count.0;
      small = small;
      any = λ z. flat-sized img file size f count.0 (omega (arith, f.whole, mul-le-mul_right size count.0));
      few = rw f.whole (mul-le-mul_right size count.1);
      whole = ap (λ m. m % size) f.whole ∙ mul-mod_left f.range.count size;
      sized = sized;
    } in
    ⊎_elim (λ q. absurd (room q))
    (λ q.
    let d = flat-importing buffer bb file size application ba major minor mediaType creationTime lastWrittenTime _ q in
    record {
      answer = _;
      accepts = q;
      same = λ a.
          let y : List ℕ = take (imported_used buffer file size application major minor mediaType creationTime lastWrittenTime) (import buffer file size application major minor mediaType creationTime lastWrittenTime).buffer in
          ap (read y) (sym (+ℤ_idl a) ∙ ap (λ (z : ℤ). z +ℤ a) (sym d.lowest))
          ∙ flat-alike y img file size d.flat f (file-count file size _ k.some d.flat.whole ∙ sym (file-count file size _ k.some f.whole)) a;
    })
    (import-or-full buffer file size application major minor mediaType creationTime lastWrittenTime k)
