-- `index::is_type` meets its contract. Assumes nothing.
use borrow.Author.Rules.{rules}
use mathlib.Core.Path.{◌≡◌}
use lib.Dec.{lit≤}
use lib.ListN.{length}
use Rattle.fields.specs.Bytes.{to_le}
use Rattle.fields.proofs.Numbers.{length-to_le}
use Rattle.fields.proofs.Overwrite.{part_same}
use Rattle.format.specs.Opening.{is_type}
use Rattle.index.proofs.is_type.Goals as goal

pub returns : goal.returns
unfolding is_type
returns c =
    let a = c.args in
    let n : length a.letters.now ≡ 4 = search rules in
    rw (c.put.ensures, n, part_same _ 0 4 (to_le 4 a.e.blockType) (length-to_le 4 a.e.blockType) (lit≤ tt)) at c.spells.ensures
