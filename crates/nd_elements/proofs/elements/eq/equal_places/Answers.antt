use Rattle.nd_elements.proofs.NamesFromOtherCrates.{◌≡◌, ◌∙◌, ap, sym, subst, pointwise, size_of, along, ranked}
use Rattle.nd_elements.specs.CollectedElements.{collected}
use Rattle.nd_elements.specs.ElementsAtNumberedPlaces.{Holds, elements_at, all_elements_at}
use Rattle.nd_elements.proofs.elements.eq.equal_places.Goals as goal

pub lanes_equal-requires-clause-ours : goal.lanes_equal-requires-clause-ours
lanes_equal-requires-clause-ours g c = subst (λ at. Holds g.S.Data.stored at c.args.a.now) (sym c.in-Some.ensures.0) c.requires.ours

pub lanes_equal-requires-clause-theirs : goal.lanes_equal-requires-clause-theirs
lanes_equal-requires-clause-theirs g c = subst (λ at. Holds g.S.Data.stored at c.args.b.now) (sym c.in-Some.ensures.1) c.requires.theirs

pub returns-in-Some : goal.returns-in-Some
returns-in-Some g c =
    let stored = g.S.Data.stored in
    let eq = g.S.Elem.PartialEq.eq in
    let as_long : c.in-Some.lane.count ≡ c.in-Some.aside.count = ap (λ at. at.count) c.in-Some.ensures.0 ∙ sym (ap (λ at. at.count) c.in-Some.ensures.1 ∙ ap size_of c.requires.alike) in
    c.lanes_equal.ensures
    ∙ ap (λ n. pointwise eq (all_elements_at stored (along c.in-Some.lane) c.args.a.now) (collected (elements_at stored (along c.in-Some.aside) c.args.b.now) n)) as_long
    ∙ ap (λ at. pointwise eq (all_elements_at stored at c.args.a.now) (all_elements_at stored (along c.in-Some.aside) c.args.b.now)) c.in-Some.ensures.0
    ∙ ap (λ at. pointwise eq (all_elements_at stored (ranked c.args.ours) c.args.a.now) (all_elements_at stored at c.args.b.now)) c.in-Some.ensures.1
