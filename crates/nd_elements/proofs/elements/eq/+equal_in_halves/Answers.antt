use Rattle.nd_elements.proofs.NamesFromOtherCrates.{sym, ◌∙◌}
use Rattle.nd_elements.proofs.elements_lemmas.EqualInAnyAxisOrder.{high_tells, low_differs}
use Rattle.nd_elements.proofs.elements.eq.+equal_in_halves.Goals as goal

pub returns-then-equal_in_halves : goal.returns-then-equal_in_halves
returns-then-equal_in_halves g t c =
    c.equal_in_halves-then-equal_in_halves.ensures
    ∙ high_tells g.S.Elem.PartialEq.eq (g.S.Data.stored c.args.a.now) (g.S.Data.stored c.args.b.now) c.requires.alike c.requires.ours c.requires.theirs c.in-Some.ensures (sym c.if-equal_in_halves.true ∙ c.equal_in_halves.ensures)

pub returns-else-equal_in_halves : goal.returns-else-equal_in_halves
returns-else-equal_in_halves g t c =
    c.if-equal_in_halves.false
    ∙ low_differs g.S.Elem.PartialEq.eq (g.S.Data.stored c.args.a.now) (g.S.Data.stored c.args.b.now) c.requires.alike c.requires.ours c.requires.theirs c.in-Some.ensures (sym c.if-equal_in_halves.false ∙ c.equal_in_halves.ensures)
