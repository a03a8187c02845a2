use Rattle.nd_elements.proofs.NamesFromOtherCrates.{◌∙◌, ap, sym, fold, flat_map, along, ranked, go_on, lane_of, all_through}
use Rattle.nd_elements.specs.CollectedElements.{collected}
use Rattle.nd_elements.specs.ElementsAtNumberedPlaces.{elements_at, all_elements_at}
use Rattle.nd_elements.proofs.elements_lemmas.ElementsCollectedInOrder.{lane_collected}
use Rattle.nd_elements.proofs.elements_lemmas.ElementsFedToHasher.{fed_then}
use Rattle.nd_elements.proofs.along_lemmas.LanePart.{lane_holds}
use Rattle.nd_elements.proofs.elements.hash.hash_places.Goals as goal

pub hash_lane-requires : goal.hash_lane-requires
hash_lane-requires g c = record { holds = lane_holds c.args.places c.loop-lane.lanes c.in-Some.lane c.loop-lane.invariant.0 c.in-Some.ensures.lane.0 (g.S.Data.stored c.args.storage.now) c.requires.holds }

pub loop-lane-preserved : goal.loop-lane-preserved
loop-lane-preserved g c =
    let so_far = c.loop-lane.invariant in
    let lanes = c.loop-lane.lanes in
    let lane = c.in-Some.lane in
    let places = c.args.places in
    let found = elements_at g.S.Data.stored (ranked places) c.args.storage.now in
    let lies = lane_of places lanes lane so_far.0 c.in-Some.ensures.lane.0 in (
      go_on places lanes c.next.new.self so_far.0 c.in-Some.ensures.over,
      fed_then g.H.Hasher.write g.S.Elem.Hash.hash_input c.args.state.now c.loop-lane.state c.hash_lane.new.state
          (collected found lanes.rank) (all_elements_at g.S.Data.stored (along lane) c.args.storage.now) so_far.1 c.hash_lane.ensures
          ∙ ap (λ xs. fold g.H.Hasher.write c.args.state.now (flat_map g.S.Elem.Hash.hash_input xs))
          (sym (lane_collected (g.S.Data.stored c.args.storage.now) places.first places.lengths.now places.strides.now lanes.rank lane.place lane.count lane.stride lies) ∙ ap (collected found) (sym c.in-Some.ensures.lane.1)),
    )

pub returns : goal.returns
returns g c =
    let so_far = c.loop-lane.invariant in
    let found = elements_at g.S.Data.stored (ranked c.args.places) c.args.storage.now in
    so_far.1 ∙ ap (λ r. fold g.H.Hasher.write c.args.state.now (flat_map g.S.Elem.Hash.hash_input (collected found r))) (all_through c.args.places c.loop-lane.lanes so_far.0 c.in_default.ensures.lane.0)
