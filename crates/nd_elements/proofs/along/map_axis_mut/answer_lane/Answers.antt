use Rattle.nd_elements.proofs.NamesFromOtherCrates.{refl, arith, rules, sym, subst, w64, Some, to_z-of_z, is_place}
use Rattle.nd_elements.specs.along.LanesWritten.{MayBeHandedLane}
use Rattle.nd_elements.proofs.along_lemmas.LanesLentAsParts.{lane_checked, lane_passes, lane_held_all, lent_holds, lent_line, back_line, lane_left, leaves_same}
use Rattle.nd_elements.proofs.along.map_axis_mut.answer_lane.Goals as goal

pub with_part-requires-clause-holds : goal.with_part-requires-clause-holds
with_part-requires-clause-holds g c =
    let lane = c.args.lane in
    lane_held_all lane.place lane.count lane.stride _ (to_z-of_z w64 lane.stride (search rules)) (g.S.Data.stored c.args.storage.now) c.requires.holds

pub with_part-requires-clause-callable : goal.with_part-requires-clause-callable
with_part-requires-clause-callable g c x part =
    let lane = c.args.lane in
    let stored = g.S.Data.stored c.args.storage.now in
    let same = to_z-of_z w64 lane.stride (search rules) in
    (c.requires.apart, (lent_holds lane.place lane.count lane.stride _ same stored x part c.requires.holds, (c.requires.keeps, subst (λ l. MayBeHandedLane g.F.FnMut c.args.f (Some l)) (sym (lent_line lane.place lane.count lane.stride _ same stored x part)) c.requires.callable)))

pub returns-clause-called : goal.returns-clause-called
returns-clause-called g c =
    let lane = c.args.lane in
    let stored = g.S.Data.stored c.args.storage.now in
    let e = c.with_part.ensures.part in
    let same = to_z-of_z w64 lane.stride (search rules) in
    leaves_same g.F.FnMut c.args.f c.with_part.result.0 c.with_part.result.1 _ _ _ _ (lent_line lane.place lane.count lane.stride _ same stored e.0 e.2) (sym (back_line lane.place lane.count lane.stride _ same stored (g.S.Data.stored c.with_part.new.self) e.1 e.4)) e.3.1.1

pub returns-clause-left : goal.returns-clause-left
returns-clause-left g c =
    let lane = c.args.lane in
    let e = c.with_part.ensures.part in
    lane_left lane.place lane.count lane.stride _ (to_z-of_z w64 lane.stride (search rules)) (g.S.Data.stored c.args.storage.now) (g.S.Data.stored c.with_part.new.self) e.1 e.4

pub invariant_of-with_part : goal.invariant_of-with_part
invariant_of-with_part g c =
    let lane = c.args.lane in
    record {
      as_many = refl;
      few = omega arith;
      checked = lane_checked lane.count lane.few;
      reach = lane_passes lane.place lane.count lane.stride _ (to_z-of_z w64 lane.stride (search rules)) is_place lane.reach;
    }
