use Rattle.nd_elements.proofs.NamesFromOtherCrates.{◌∙◌, ◌<◌, ap, sym, subst, pointwise, size_of, along, ranked, all_through}
use Rattle.nd_elements.specs.CollectedElements.{collected}
use Rattle.nd_elements.specs.ElementsAtNumberedPlaces.{elements_at, all_elements_at}
use Rattle.nd_elements.specs.StoragePlaces.{stored_at}
use Rattle.nd_elements.proofs.elements_lemmas.ComparedElements.{lane_more, lane_differs}
use Rattle.nd_elements.proofs.along_lemmas.LanePart.{lane_holds}
use Rattle.nd_elements.proofs.elements_lemmas.LanesOfBoth.{as_long, both_lie, go_on_both}
use Rattle.nd_elements.proofs.elements.eq.equal_lane_by_lane.Goals as goal

pub lanes_equal-requires-clause-as_long : goal.lanes_equal-requires-clause-as_long
lanes_equal-requires-clause-as_long g c =
    as_long c.args.ours c.args.theirs c.loop-lane.lanes c.loop-lane.others c.loop-lane.invariant.0 c.in-Some.lane c.in-Some-next.other c.requires.alike c.in-Some.ensures.along c.in-Some-next.ensures.along

pub lanes_equal-requires-clause-ours : goal.lanes_equal-requires-clause-ours
lanes_equal-requires-clause-ours g c = lane_holds c.args.ours c.loop-lane.lanes c.in-Some.lane c.loop-lane.invariant.0.0 c.in-Some.ensures.lane.0 (g.S.Data.stored c.args.a.now) c.requires.ours

pub lanes_equal-requires-clause-theirs : goal.lanes_equal-requires-clause-theirs
lanes_equal-requires-clause-theirs g c = lane_holds c.args.theirs c.loop-lane.others c.in-Some-next.other c.loop-lane.invariant.0.1 c.in-Some-next.ensures.lane.0 (g.S.Data.stored c.args.b.now) c.requires.theirs

pub returns-then-not-lanes_equal : goal.returns-then-not-lanes_equal
returns-then-not-lanes_equal g c =
    let eq = g.S.Elem.PartialEq.eq in
    let one = c.args.ours in
    let lies = both_lie one c.args.theirs c.loop-lane.lanes c.loop-lane.others c.loop-lane.invariant.0 c.in-Some.lane c.in-Some-next.other c.requires.alike c.in-Some.ensures.along c.in-Some-next.ensures.along c.in-Some.ensures.lane.0 c.in-Some-next.ensures.lane.0 in
    sym
    (ap (λ ns. pointwise eq (all_elements_at g.S.Data.stored (ranked one) c.args.a.now) (collected (elements_at g.S.Data.stored (ranked c.args.theirs) c.args.b.now) (size_of ns))) c.requires.alike
    ∙ lane_differs eq (elements_at g.S.Data.stored (ranked one) c.args.a.now) (elements_at g.S.Data.stored (ranked c.args.theirs) c.args.b.now) (size_of one.lengths.now) c.requires.ours (λ j below. c.requires.theirs j (subst (λ ns. j < size_of ns) (sym c.requires.alike) below)) c.loop-lane.lanes.rank c.in-Some.lane.count
    (elements_at g.S.Data.stored (along c.in-Some.lane) c.args.a.now) (elements_at g.S.Data.stored (along c.in-Some-next.other) c.args.b.now) lies.1.within
    (λ k below. ap (stored_at (g.S.Data.stored c.args.a.now)) (lies.1.places k below)) (λ k below. ap (stored_at (g.S.Data.stored c.args.b.now)) (lies.2.places k below))
    (sym c.lanes_equal.ensures ∙ c.if-not-lanes_equal.true))

pub loop-lane-preserved : goal.loop-lane-preserved
loop-lane-preserved g c =
    let eq = g.S.Elem.PartialEq.eq in
    let one = c.args.ours in
    let two = c.args.theirs in
    let lies = both_lie one two c.loop-lane.lanes c.loop-lane.others c.loop-lane.invariant.0 c.in-Some.lane c.in-Some-next.other c.requires.alike c.in-Some.ensures.along c.in-Some-next.ensures.along c.in-Some.ensures.lane.0 c.in-Some-next.ensures.lane.0 in (
      go_on_both one two c.loop-lane.lanes c.loop-lane.others c.loop-lane.invariant.0 c.in-Some.lane c.in-Some-next.other c.next.new.self c.next-in-Some.new.self c.in-Some.ensures.over c.in-Some-next.ensures.over c.in-Some.ensures.lane.1 c.in-Some-next.ensures.lane.1 lies.0,
      ap (λ n. pointwise eq (collected (elements_at g.S.Data.stored (ranked one) c.args.a.now) n) (collected (elements_at g.S.Data.stored (ranked two) c.args.b.now) n)) c.in-Some.ensures.lane.1
          ∙ lane_more eq (elements_at g.S.Data.stored (ranked one) c.args.a.now) (elements_at g.S.Data.stored (ranked two) c.args.b.now) (size_of one.lengths.now) c.requires.ours (λ j below. c.requires.theirs j (subst (λ ns. j < size_of ns) (sym c.requires.alike) below)) c.loop-lane.lanes.rank c.in-Some.lane.count
          (elements_at g.S.Data.stored (along c.in-Some.lane) c.args.a.now) (elements_at g.S.Data.stored (along c.in-Some-next.other) c.args.b.now) lies.1.within
          (λ k below. ap (stored_at (g.S.Data.stored c.args.a.now)) (lies.1.places k below)) (λ k below. ap (stored_at (g.S.Data.stored c.args.b.now)) (lies.2.places k below))
          c.loop-lane.invariant.1 (sym c.lanes_equal.ensures ∙ c.if-not-lanes_equal.false),
    )

pub returns : goal.returns
returns g c =
    let ours = elements_at g.S.Data.stored (ranked c.args.ours) c.args.a.now in
    let theirs = elements_at g.S.Data.stored (ranked c.args.theirs) c.args.b.now in
    sym
    (ap (λ ns. pointwise g.S.Elem.PartialEq.eq (collected ours (size_of c.args.ours.lengths.now)) (collected theirs (size_of ns))) c.requires.alike
    ∙ (ap (λ n. pointwise g.S.Elem.PartialEq.eq (collected ours n) (collected theirs n)) (sym (all_through c.args.ours c.loop-lane.lanes c.loop-lane.invariant.0.0 c.in_default.ensures.lane.0)) ∙ c.loop-lane.invariant.1))
