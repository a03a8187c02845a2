use Rattle.nd_elements.proofs.NamesFromOtherCrates.{refl, arith, rules, w64, FitsSigned, to_z-of_z, is_place}
use Rattle.nd_elements.proofs.along_lemmas.NeighboursInLane.{neighbours_pass, neighbours_held, neighbours_ask, neighbour_changed, neighbours_left}
use Rattle.nd_elements.proofs.along.accumulate_axis.change_after_strided.Goals as goal

pub with_part-requires-clause-holds : goal.with_part-requires-clause-holds
with_part-requires-clause-holds g c =
    let lane = c.args.lane in
    let fits : FitsSigned w64 lane.stride = search rules in
    neighbours_held lane.place c.args.nth lane.count c.place_of-from.result c.place_of-to.result lane.stride _ (to_z-of_z w64 lane.stride fits) c.requires.within c.place_of-from.ensures c.place_of-to.ensures (g.S.Data.stored c.args.storage.now) c.requires.holds

pub with_part-requires-clause-callable : goal.with_part-requires-clause-callable
with_part-requires-clause-callable g c x part =
    let lane = c.args.lane in
    let fits : FitsSigned w64 lane.stride = search rules in
    let asked = neighbours_ask lane.place c.args.nth lane.count c.place_of-from.result c.place_of-to.result lane.stride _ (to_z-of_z w64 lane.stride fits) c.requires.within c.place_of-from.ensures c.place_of-to.ensures g.F.FnMut (g.S.Data.stored c.args.storage.now) c.args.f c.requires.apart c.requires.holds c.requires.callable x part in
    (asked.0, ((asked.1.0, asked.1.1), λ v w shows gives. asked.2 v w shows gives))

pub returns : goal.returns
returns g c =
    let lane = c.args.lane in
    let e = c.with_part.ensures.part in
    let fits : FitsSigned w64 lane.stride = search rules in record {
      called = neighbour_changed lane.place c.args.nth lane.count c.place_of-from.result c.place_of-to.result lane.stride _ (to_z-of_z w64 lane.stride fits) c.requires.within c.place_of-from.ensures c.place_of-to.ensures g.F.FnMut (g.S.Data.stored c.args.storage.now) c.args.f (g.S.Data.stored c.with_part.new.self) e.0 e.1 c.with_part.result e.2 e.3.1 e.4;
      left = neighbours_left lane.place c.args.nth lane.count c.place_of-from.result c.place_of-to.result lane.stride _ (to_z-of_z w64 lane.stride fits) c.requires.within c.place_of-from.ensures c.place_of-to.ensures g.F.FnMut (g.S.Data.stored c.args.storage.now) c.args.f (g.S.Data.stored c.with_part.new.self) e.0 e.1 c.with_part.result e.2 e.3.1 e.4;
      frame = search rules;
    }

pub invariant_of-with_part : goal.invariant_of-with_part
invariant_of-with_part g c =
    let lane = c.args.lane in
    let fits : FitsSigned w64 lane.stride = search rules in
    record {
      as_many = refl;
      few = omega arith;
      checked = omega arith;
      reach = neighbours_pass lane.place c.args.nth lane.count c.place_of-from.result c.place_of-to.result lane.stride _ (to_z-of_z w64 lane.stride fits) c.requires.within c.place_of-from.ensures c.place_of-to.ensures is_place lane.reach;
    }
