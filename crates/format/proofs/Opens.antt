-- Opening accepts exactly if the image opens, by facts alone: what the tests find is what the facts say.
use mathlib.Core.List.{List, [], ◌∷◌}
use mathlib.Core.Logic.Iff
use mathlib.Core.Logic.{◌↔◌}
use mathlib.Core.Path.{◌≡◌, refl, ap, ◌∙◌, subst}
use Prim.Native.Nat.{ℕ}
use Rattle.std.specs.Prelude.{Ok}
use Rattle.format.specs.declared.TableKind.{TableKind}
use Rattle.format.specs.declared.TableKind.TheVariants.{First}
use Rattle.format.specs.Layouts.{entries}
use Rattle.format.specs.Opening.{offsets_with, is_table, table_at, kind_at, open_verdict, Opened, opened_as, opened_at, opened}
use Rattle.format.specs.Facts.{Opens, OpensWith}
use Rattle.format.proofs.Checks.{kind-iff, table_at-only, OpenOk, open-ok, WritableOk}
use Rattle.format.proofs.Named.{table-named}

module _ (img : List ℕ) (o : ℕ) where
  pub opens-forth : OpenOk img o → Opens img o (kind_at img (table_at img o)) (table_at img o)
  opens-forth k =
      let n = (table-named (entries img o) (table_at img o)).0 k.only in
      record {
        header = k.header;
        index = k.index;
        entries_ok = k.entries_ok;
        named_by = n.entry;
        only = n.only;
        place = n.place;
        of_kind = (kind-iff img (table_at img o) _).0 refl;
        table_ok = k.table;
      }

  module _ (k : TableKind) (t : ℕ) (n : Opens img o k t) where
    table-only : offsets_with is_table (entries img o) ≡ t ∷ []
    table-only = (table-named (entries img o) t).1 (record { entry = n.named_by; only = n.only; place = n.place })

    table-at : table_at img o ≡ t
    table-at = table_at-only img o t table-only

    kind-at : kind_at img t ≡ k
    kind-at = (kind-iff img t k).1 n.of_kind

    pub opens_back : OpenOk img o
    opens_back =
        record {
          header = n.header;
          index = n.index;
          entries_ok = n.entries_ok;
          only = rw table-at table-only;
          table = rw (table-at, kind-at) n.table_ok;
        }

    pub opened-as : opened img o ≡ opened_as img k t
    unfolding opened
    opened-as = ap (opened_at img) table-at ∙ ap (λ (j : TableKind). opened_as img j t) kind-at

  -- with a table of this kind
  pub opens-with : (k : TableKind) → ((open_verdict img o ≡ Ok tt) × ((opened img o).kind ≡ k)) ↔ OpensWith img o k
  unfolding opened opened_as
  opens-with k = (
    (λ (h, e). record { table = table_at img o; opens = subst (λ (j : TableKind). Opens img o j (table_at img o)) e (opens-forth ((open-ok img o).0 h)) }),
    λ n. ((open-ok img o).1 (opens_back k n.table n.opens), ap (λ (t : Opened). t.kind) (opened-as k n.table n.opens)),
  )

  -- and may be written to
  pub writable-with : WritableOk img o ↔ OpensWith img o First
  writable-with = Iff.trans ((λ k. ((open-ok img o).1 k.opens, k.first)), λ (h, e). record { opens = (open-ok img o).0 h; first = e }) (opens-with First)
