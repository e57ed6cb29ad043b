use native.Mathlib.Omega.{arith}
use mathlib.Core.List.{List}
use mathlib.Core.Path.{◌≡◌, refl, sym, subst}
use Rattle.format.specs.declared.Entry.{Entry}
use Rattle.format.specs.Layouts.{DBLK, index_offset, entry_count}
use Rattle.format.specs.Opening.{offsets_of}
use Rattle.index.proofs.Entries.{all_on}
use Rattle.opening.specs.Images.{held}
use Rattle.checking.specs.Checked.{looked_at, FirstLeft}
use Rattle.checking.proofs.Whole.{all-looked-at}
use Rattle.checking.proofs.first_within.Goals as goal
use Rattle.checking.proofs.first_within.Goals.{After-count-i-end}

-- the loop goes over the entries of the image's own index
bound : (c : After-count-i-end) → let s = c.args.image.bytes.now in c.count-i-end.result ≡ entry_count s (index_offset s)
bound c = rw (c.index.ensures.bytes, c.index.ensures.at) at c.count-i-end.ensures

pub loop-i-init : goal.loop-i-init
loop-i-init c =
    let s = c.args.image.bytes.now in
    let t = held c.args.image in
    subst (λ (es : List Entry). FirstLeft s t (looked_at s t c.args.scope) (offsets_of DBLK es) c.first_form-first.result) (sym (all_on s (index_offset s))) c.first_form-first.ensures

pub with_block-first-requires : goal.with_block-first-requires
with_block-first-requires c =
    (omega (arith, bound (goal.at.with_block-first-requires c).After-count-i-end), c.loop-i.invariant)

pub returns : goal.returns
unfolding looked_at
returns c =
    all-looked-at _ _ _ _ (λ a. refl) _ (omega (arith, bound (goal.at.returns c).After-count-i-end)) c.loop-i.invariant
