use Rattle.nd_elements.proofs.NamesFromOtherCrates.{◌∙◌, sym, subst, along, ranked, all_through}
use Rattle.nd_elements.specs.elements.PairsWithOneWritten.{IsZippedTo}
use Rattle.nd_elements.proofs.along_lemmas.LanePart.{lane_apart, lane_holds, still_holds}
use Rattle.nd_elements.proofs.elements_lemmas.LanesOfBoth.{as_long, both_lie, go_on_both}
use Rattle.nd_elements.proofs.elements_lemmas.PairedElements.{zipped_then, zips_next}
use Rattle.nd_elements.proofs.elements.zip_mut_with.zip_lane_by_lane.Goals as goal

pub zip_lane-now-requires-clause-as_long : goal.zip_lane-now-requires-clause-as_long
zip_lane-now-requires-clause-as_long g c = as_long c.args.places c.args.other_places c.loop-lane.ours c.loop-lane.theirs c.loop-lane.invariant.0 c.in-Some.lane c.in-Some-next.aside c.requires.alike c.in-Some.ensures.along c.in-Some-next.ensures.along

pub zip_lane-now-requires-clause-apart : goal.zip_lane-now-requires-clause-apart
zip_lane-now-requires-clause-apart g c = lane_apart c.args.places c.loop-lane.ours c.in-Some.lane c.loop-lane.invariant.0.0 c.in-Some.ensures.lane.0 c.requires.apart

pub zip_lane-now-requires-clause-holds : goal.zip_lane-now-requires-clause-holds
zip_lane-now-requires-clause-holds g c = still_holds c.args.places c.loop-lane.ours c.in-Some.lane c.loop-lane.invariant.0.0 c.in-Some.ensures.lane.0 (g.S.Data.stored c.args.storage.now) (g.S.Data.stored c.loop-lane.storage) c.requires.apart c.loop-lane.invariant.1.left c.requires.holds

pub zip_lane-now-requires-clause-others_hold : goal.zip_lane-now-requires-clause-others_hold
zip_lane-now-requires-clause-others_hold g c = lane_holds c.args.other_places c.loop-lane.theirs c.in-Some-next.aside c.loop-lane.invariant.0.1 c.in-Some-next.ensures.lane.0 (g.Z.Data.stored c.args.others.now) c.requires.others_hold

pub zip_lane-now-requires-clause-callable : goal.zip_lane-now-requires-clause-callable
zip_lane-now-requires-clause-callable g c =
    let at = ranked c.args.places in
    let now = g.S.Data.stored c.loop-lane.storage in
    let lies = both_lie c.args.places c.args.other_places c.loop-lane.ours c.loop-lane.theirs c.loop-lane.invariant.0 c.in-Some.lane c.in-Some-next.aside c.requires.alike c.in-Some.ensures.along c.in-Some-next.ensures.along c.in-Some.ensures.lane.0 c.in-Some-next.ensures.lane.0 in
    zips_next g.F.FnMut (g.Z.Data.stored c.args.others.now) at.place (along c.in-Some.lane).place (ranked c.args.other_places).place (along c.in-Some-next.aside).place c.loop-lane.ours.rank c.in-Some.lane.count at.count
    lies.1.within c.requires.apart lies.1.places lies.2.places (g.S.Data.stored c.args.storage.now) now now c.args.f c.loop-lane.now c.loop-lane.now c.loop-lane.invariant.1 c.requires.callable

pub loop-lane-preserved : goal.loop-lane-preserved
loop-lane-preserved g c =
    let so_far = c.loop-lane.invariant in
    let at = ranked c.args.places in
    let old = g.S.Data.stored c.args.storage.now in
    let new = g.S.Data.stored c.zip_lane-now.new.storage in
    let others = g.Z.Data.stored c.args.others.now in
    let lies = both_lie c.args.places c.args.other_places c.loop-lane.ours c.loop-lane.theirs so_far.0 c.in-Some.lane c.in-Some-next.aside c.requires.alike c.in-Some.ensures.along c.in-Some-next.ensures.along c.in-Some.ensures.lane.0 c.in-Some-next.ensures.lane.0 in (
      go_on_both c.args.places c.args.other_places c.loop-lane.ours c.loop-lane.theirs so_far.0 c.in-Some.lane c.in-Some-next.aside c.next.new.self c.next-in-Some.new.self c.in-Some.ensures.over c.in-Some-next.ensures.over c.in-Some.ensures.lane.1 c.in-Some-next.ensures.lane.1 lies.0,
      subst (λ r. IsZippedTo g.F.FnMut at.place others (ranked c.args.other_places).place r old new c.args.f c.zip_lane-now.result) (sym c.in-Some.ensures.lane.1)
          (zipped_then g.F.FnMut others at.place (along c.in-Some.lane).place (ranked c.args.other_places).place (along c.in-Some-next.aside).place c.loop-lane.ours.rank c.in-Some.lane.count at.count
          lies.1.within c.requires.apart lies.1.places lies.2.places old (g.S.Data.stored c.loop-lane.storage) new c.args.f c.loop-lane.now c.zip_lane-now.result so_far.1 c.zip_lane-now.ensures.changed),
      c.zip_lane-now.ensures.frame ∙ so_far.2,
    )

pub returns-clause-changed : goal.returns-clause-changed
returns-clause-changed g c =
    let so_far = c.loop-lane.invariant in
    subst (λ r. IsZippedTo g.F.FnMut (ranked c.args.places).place (g.Z.Data.stored c.args.others.now) (ranked c.args.other_places).place r (g.S.Data.stored c.args.storage.now) (g.S.Data.stored c.loop-lane.storage) c.args.f c.loop-lane.now) (all_through c.args.places c.loop-lane.ours so_far.0.0 c.in_default.ensures.lane.0) so_far.1

pub returns-clause-frame : goal.returns-clause-frame
returns-clause-frame g c = c.loop-lane.invariant.2
