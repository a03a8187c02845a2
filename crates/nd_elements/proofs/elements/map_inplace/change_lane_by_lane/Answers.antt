use Rattle.nd_elements.proofs.NamesFromOtherCrates.{◌∙◌, sym, subst, along, ranked, go_on, lane_of, all_through}
use Rattle.nd_elements.specs.elements.ElementChanges.{ChangesElement, IsChangedTo}
use Rattle.nd_elements.proofs.elements_lemmas.ElementsHandedToBeWritten.{changed_then, takes_next}
use Rattle.nd_elements.proofs.along_lemmas.LanePart.{lane_apart, still_holds}
use Rattle.nd_elements.proofs.elements.map_inplace.change_lane_by_lane.Goals as goal

pub change_lane-now-requires-clause-apart : goal.change_lane-now-requires-clause-apart
change_lane-now-requires-clause-apart g c = lane_apart c.args.places c.loop-lane.lanes c.in-Some.lane c.loop-lane.invariant.0 c.in-Some.ensures.lane.0 c.requires.apart

pub change_lane-now-requires-clause-holds : goal.change_lane-now-requires-clause-holds
change_lane-now-requires-clause-holds g c = still_holds c.args.places c.loop-lane.lanes c.in-Some.lane c.loop-lane.invariant.0 c.in-Some.ensures.lane.0 (g.S.Data.stored c.args.storage.now) (g.S.Data.stored c.loop-lane.storage) c.requires.apart c.loop-lane.invariant.1.left c.requires.holds

pub change_lane-now-requires-clause-callable : goal.change_lane-now-requires-clause-callable
change_lane-now-requires-clause-callable g c =
    let at = ranked c.args.places in
    let lies = lane_of c.args.places c.loop-lane.lanes c.in-Some.lane c.loop-lane.invariant.0 c.in-Some.ensures.lane.0 in
    takes_next g.F.FnMut at.place (along c.in-Some.lane).place c.loop-lane.lanes.rank c.in-Some.lane.count at.count lies.within c.requires.apart lies.places
    (g.S.Data.stored c.args.storage.now) (g.S.Data.stored c.loop-lane.storage) c.args.f c.loop-lane.now c.loop-lane.invariant.1 c.requires.callable

pub loop-lane-preserved : goal.loop-lane-preserved
loop-lane-preserved g c =
    let so_far = c.loop-lane.invariant in
    let at = ranked c.args.places in
    let old = g.S.Data.stored c.args.storage.now in
    let new = g.S.Data.stored c.change_lane-now.new.storage in
    let lies = lane_of c.args.places c.loop-lane.lanes c.in-Some.lane so_far.0 c.in-Some.ensures.lane.0 in (
      go_on c.args.places c.loop-lane.lanes c.next.new.self so_far.0 c.in-Some.ensures.over,
      subst (λ r. IsChangedTo g.F.FnMut at.place r old new c.args.f c.change_lane-now.result) (sym c.in-Some.ensures.lane.1)
          (changed_then (ChangesElement g.F.FnMut) at.place (along c.in-Some.lane).place c.loop-lane.lanes.rank c.in-Some.lane.count at.count lies.within c.requires.apart lies.places
          old (g.S.Data.stored c.loop-lane.storage) new c.args.f c.loop-lane.now c.change_lane-now.result so_far.1 c.change_lane-now.ensures.changed),
      c.change_lane-now.ensures.frame ∙ so_far.2,
    )

pub returns-clause-changed : goal.returns-clause-changed
returns-clause-changed g c =
    let so_far = c.loop-lane.invariant in
    subst (λ r. IsChangedTo g.F.FnMut (ranked c.args.places).place r (g.S.Data.stored c.args.storage.now) (g.S.Data.stored c.loop-lane.storage) c.args.f c.loop-lane.now) (all_through c.args.places c.loop-lane.lanes so_far.0 c.in_default.ensures.lane.0) so_far.1

pub returns-clause-frame : goal.returns-clause-frame
returns-clause-frame g c = c.loop-lane.invariant.2
