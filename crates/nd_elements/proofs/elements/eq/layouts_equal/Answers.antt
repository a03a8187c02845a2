use Rattle.nd_elements.proofs.NamesFromOtherCrates.{◌∙◌}
use Rattle.nd_elements.proofs.elements_lemmas.EqualInAnyAxisOrder.{turned_equal}
use Rattle.nd_elements.proofs.elements.eq.layouts_equal.Goals as goal

pub returns : goal.returns
returns g c =
    c.equal_in_halves.ensures ∙ turned_equal g.S.Elem.PartialEq.eq (g.S.Data.stored c.args.a.now) (g.S.Data.stored c.args.b.now) c.requires.alike c.requires.ours c.requires.theirs c.turned_alike-turned.ensures

pub returns-in-Some : goal.returns-in-Some
returns-in-Some g c =
    c.equal_in_order.ensures ∙ turned_equal g.S.Elem.PartialEq.eq (g.S.Data.stored c.args.a.now) (g.S.Data.stored c.args.b.now) c.requires.alike c.requires.ours c.requires.theirs c.in-Some.ensures
