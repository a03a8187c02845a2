use Rattle.nd_elements.proofs.NamesFromOtherCrates.{◌∙◌, sym, subst, along, ranked, go_on, lane_of, all_through}
use Rattle.nd_elements.specs.FilledPlaces.{IsFilledTo}
use Rattle.nd_elements.proofs.elements_lemmas.FilledPlaces.{filled_then, partly_then, filled_holds}
use Rattle.nd_elements.proofs.along_lemmas.LanePart.{some_place, lane_holds}
use Rattle.nd_elements.proofs.elements.fill.fill_lane_by_lane.Goals as goal

pub fill_lane-requires-clause-holds : goal.fill_lane-requires-clause-holds
fill_lane-requires-clause-holds g c =
    λ k below.
    filled_holds c.args.value.now (ranked c.args.places).place c.loop-lane.lanes.rank (g.S.Data.stored c.args.storage.now) (g.S.Data.stored c.loop-lane.storage) c.loop-lane.invariant.1 ((along c.in-Some.lane).place k)
    (lane_holds c.args.places c.loop-lane.lanes c.in-Some.lane c.loop-lane.invariant.0 c.in-Some.ensures.lane.0 (g.S.Data.stored c.args.storage.now) c.requires.holds k below)

pub loop-lane-preserved : goal.loop-lane-preserved
loop-lane-preserved g c =
    let so_far = c.loop-lane.invariant in
    let lanes = c.loop-lane.lanes in
    let lane = c.in-Some.lane in
    let at = ranked c.args.places in
    let old = g.S.Data.stored c.args.storage.now in
    let new = g.S.Data.stored c.fill_lane.new.storage in
    let given = c.in-Some.ensures.lane in (
      go_on c.args.places lanes c.next.new.self so_far.0 c.in-Some.ensures.over,
      subst (λ r. IsFilledTo at.place r c.args.value.now old new) (sym given.1)
          (filled_then c.args.value.now at.place (along lane).place lanes.rank lane.count (lane_of c.args.places lanes lane so_far.0 given.0).places old (g.S.Data.stored c.loop-lane.storage) new so_far.1 c.in-Ok.ensures.filled),
      c.fill_lane.ensures.frame ∙ so_far.2,
    )

pub returns-in-Err-clause-stopped : goal.returns-in-Err-clause-stopped
returns-in-Err-clause-stopped g c =
    let so_far = c.loop-lane.invariant in
    let lanes = c.loop-lane.lanes in
    let lane = c.in-Some.lane in
    let at = ranked c.args.places in
    let lies = lane_of c.args.places lanes lane so_far.0 c.in-Some.ensures.lane.0 in
    partly_then c.args.value.now at.place (along lane).place lanes.rank lane.count lies.places (g.S.Data.stored c.args.storage.now) (g.S.Data.stored c.loop-lane.storage) (g.S.Data.stored c.fill_lane.new.storage) so_far.1 at.count lies.within c.in-Err.ensures.stopped

pub returns-in-Err-clause-refused : goal.returns-in-Err-clause-refused
returns-in-Err-clause-refused g c = (some_place c.args.places c.loop-lane.lanes c.in-Some.lane c.loop-lane.invariant.0 c.in-Some.ensures.lane.0, c.in-Err.ensures.refused.1)

pub returns-in-Err-clause-frame : goal.returns-in-Err-clause-frame
returns-in-Err-clause-frame g c = c.fill_lane.ensures.frame ∙ c.loop-lane.invariant.2

pub returns-clause-filled : goal.returns-clause-filled
returns-clause-filled g c =
    let so_far = c.loop-lane.invariant in
    subst (λ r. IsFilledTo (ranked c.args.places).place r c.args.value.now (g.S.Data.stored c.args.storage.now) (g.S.Data.stored c.loop-lane.storage)) (all_through c.args.places c.loop-lane.lanes so_far.0 c.in_default.ensures.lane.0) so_far.1

pub returns-clause-frame : goal.returns-clause-frame
returns-clause-frame g c = c.loop-lane.invariant.2
