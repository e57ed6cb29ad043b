-- `fields::spells` meets its contract. Assumes nothing.
use Rattle.fields.proofs.Equal.{equal-numbers}
use Rattle.fields.proofs.spells.Goals as goal

pub returns : goal.returns
returns c =
    let a = c.args in
    rw (c.get.ensures, c.get-2.ensures)
    (equal-numbers a.s.now a.at a.letters.now (λ i. (c.type_inv.s i).fits) (λ i. (c.type_inv.letters i).fits) c.requires.0)
