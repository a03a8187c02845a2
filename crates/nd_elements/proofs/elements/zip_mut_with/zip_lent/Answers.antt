use Rattle.nd_elements.proofs.NamesFromOtherCrates.{refl, arith, rules, w64, to_z-of_z, is_place, region_stored, along}
use Rattle.nd_elements.proofs.along_lemmas.LanesLentAsParts.{lane_checked, lane_passes, lane_held_all, lent_alike, lent_holds, back_alike, lane_left}
use Rattle.nd_elements.proofs.elements_lemmas.LaneLent.{lent_takes, lent_zipped}
use Rattle.nd_elements.proofs.elements.zip_mut_with.zip_lent.Goals as goal

pub with_part-requires-clause-holds : goal.with_part-requires-clause-holds
with_part-requires-clause-holds g c =
    let lane = c.args.lane in
    lane_held_all lane.place lane.count lane.stride _ (to_z-of_z w64 lane.stride (search rules)) (g.S.Data.stored c.args.storage.now) c.requires.holds

pub with_part-requires-clause-callable : goal.with_part-requires-clause-callable
with_part-requires-clause-callable g c x part =
    let lane = c.args.lane in
    let stored = g.S.Data.stored c.args.storage.now in
    let same = to_z-of_z w64 lane.stride (search rules) in
    let takes = lent_takes g.F.FnMut (along lane).place (along c.args.other_lane).place lane.count stored (region_stored x) (g.Z.Data.stored c.args.others.now) (lent_alike lane.place lane.count lane.stride _ same stored x part) c.args.f c.requires.callable in
    (c.requires.as_long, (c.requires.apart, (lent_holds lane.place lane.count lane.stride _ same stored x part c.requires.holds, (c.requires.others_hold, takes))))

pub returns-clause-changed : goal.returns-clause-changed
returns-clause-changed g c =
    let lane = c.args.lane in
    let stored = g.S.Data.stored c.args.storage.now in
    let new = g.S.Data.stored c.with_part.new.self in
    let e = c.with_part.ensures.part in
    let same = to_z-of_z w64 lane.stride (search rules) in
    lent_zipped g.F.FnMut (along lane).place (along c.args.other_lane).place lane.count stored (region_stored e.0) (g.Z.Data.stored c.args.others.now) (lent_alike lane.place lane.count lane.stride _ same stored e.0 e.2) new (region_stored e.1)
    (back_alike lane.place lane.count lane.stride _ same stored new e.1 e.4) (lane_left lane.place lane.count lane.stride _ same stored new e.1 e.4) c.args.f c.with_part.result e.3.1.0

pub invariant_of-with_part : goal.invariant_of-with_part
invariant_of-with_part g c =
    let lane = c.args.lane in
    record {
      as_many = refl;
      few = omega arith;
      checked = lane_checked lane.count lane.few;
      reach = lane_passes lane.place lane.count lane.stride _ (to_z-of_z w64 lane.stride (search rules)) is_place lane.reach;
    }
