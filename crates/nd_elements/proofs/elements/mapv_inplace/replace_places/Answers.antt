use Rattle.nd_elements.proofs.NamesFromOtherCrates.{◌∙◌, ◌+◌, ◌<◌, sym, subst, arith, rules, along, ranked, go_on, lane_of, all_through}
use Rattle.nd_elements.specs.elements.ElementChanges.{IsChangedBy}
use Rattle.nd_elements.specs.elements.ElementMaps.{AnswersValue, MayBeGiven, Replaces}
use Rattle.nd_elements.proofs.elements_lemmas.ElementsHandedToBeWritten.{changed_then, still_there}
use Rattle.nd_elements.proofs.along_lemmas.LanePart.{lane_apart, still_clones, still_holds}
use Rattle.nd_elements.proofs.elements_lemmas.ReplacedElements.{replaced_takes}
use Rattle.nd_elements.proofs.elements.mapv_inplace.replace_places.Goals as goal

pub replace_lane-requires-clause-apart : goal.replace_lane-requires-clause-apart
replace_lane-requires-clause-apart g c = lane_apart c.args.places c.loop-lane.lanes c.in-Some.lane c.loop-lane.invariant.0 c.in-Some.ensures.lane.0 c.requires.apart

pub replace_lane-requires-clause-clones : goal.replace_lane-requires-clause-clones
replace_lane-requires-clause-clones g c = still_clones c.args.places c.loop-lane.lanes c.in-Some.lane c.loop-lane.invariant.0 c.in-Some.ensures.lane.0 (g.S.Data.stored c.args.storage.now) (g.S.Data.stored c.loop-lane.storage) c.requires.apart c.loop-lane.invariant.1.left g.S.Elem.Clone.is_clone c.requires.clones

pub replace_lane-requires-clause-holds : goal.replace_lane-requires-clause-holds
replace_lane-requires-clause-holds g c = still_holds c.args.places c.loop-lane.lanes c.in-Some.lane c.loop-lane.invariant.0 c.in-Some.ensures.lane.0 (g.S.Data.stored c.args.storage.now) (g.S.Data.stored c.loop-lane.storage) c.requires.apart c.loop-lane.invariant.1.left c.requires.holds

pub replace_lane-requires-clause-callable : goal.replace_lane-requires-clause-callable
replace_lane-requires-clause-callable g c =
    let at = ranked c.args.places in
    let lies = lane_of c.args.places c.loop-lane.lanes c.in-Some.lane c.loop-lane.invariant.0 c.in-Some.ensures.lane.0 in
    replaced_takes (AnswersValue g.F.FnMut) (MayBeGiven g.F.FnMut) at.place (along c.in-Some.lane).place c.loop-lane.lanes.rank c.in-Some.lane.count at.count lies.within c.requires.apart lies.places
    (g.S.Data.stored c.args.storage.now) (g.S.Data.stored c.loop-lane.storage) c.args.f c.loop-lane.now c.loop-lane.invariant.1 c.requires.callable

pub loop-lane-preserved : goal.loop-lane-preserved
loop-lane-preserved g c =
    let so_far = c.loop-lane.invariant in let at = ranked c.args.places in let old = g.S.Data.stored c.args.storage.now in
    let new = g.S.Data.stored c.replace_lane.new.storage in
    let lies = lane_of c.args.places c.loop-lane.lanes c.in-Some.lane so_far.0 c.in-Some.ensures.lane.0 in (
      go_on c.args.places c.loop-lane.lanes c.next.new.self so_far.0 c.in-Some.ensures.over,
      subst (λ r. IsChangedBy (Replaces (AnswersValue g.F.FnMut)) at.place r old new c.args.f c.in-Ok.later) (sym c.in-Some.ensures.lane.1)
          (changed_then (Replaces (AnswersValue g.F.FnMut)) at.place (along c.in-Some.lane).place c.loop-lane.lanes.rank c.in-Some.lane.count at.count lies.within c.requires.apart lies.places
          old (g.S.Data.stored c.loop-lane.storage) new c.args.f c.loop-lane.now c.in-Ok.later so_far.1 c.in-Ok.ensures.replaced),
      c.replace_lane.ensures.frame ∙ so_far.2,
      (λ p has. c.replace_lane.ensures.there p (so_far.3 p has)),
    )

pub returns-in-Err : goal.returns-in-Err
returns-in-Err g c =
    let so_far = c.loop-lane.invariant in let lanes = c.loop-lane.lanes in let lane = c.in-Some.lane in let at = ranked c.args.places in
    let lies = lane_of c.args.places lanes lane so_far.0 c.in-Some.ensures.lane.0 in
    let within = lies.within in record {
      replaced = search rules;
      stopped =
          let part = c.in-Err.ensures.stopped in
          let inner : part.0 < lane.count = part.2 in (
            lanes.rank + part.0,
            part.1,
            omega (arith, within, inner),
            changed_then (Replaces (AnswersValue g.F.FnMut)) at.place (along lane).place lanes.rank part.0 at.count (omega (arith, within, inner)) c.requires.apart
                (λ j under. lies.places j (omega (arith, under, inner)))
                (g.S.Data.stored c.args.storage.now) (g.S.Data.stored c.loop-lane.storage) (g.S.Data.stored c.replace_lane.new.storage) c.args.f c.loop-lane.now part.1 so_far.1 part.3,
          );
      refused =
          let now = g.S.Data.stored c.loop-lane.storage in
          let refused = c.in-Err.ensures.refused in
          let still = still_there (Replaces (AnswersValue g.F.FnMut)) at.place (along lane).place lanes.rank lane.count at.count within c.requires.apart lies.places (g.S.Data.stored c.args.storage.now) now now c.args.f c.loop-lane.now c.loop-lane.now so_far.1 in
          (lanes.rank + refused.0, refused.1, omega (arith, within, refused.2), sym (still refused.0 refused.2) ∙ refused.3, refused.4);
      there = (λ p has. c.replace_lane.ensures.there p (c.loop-lane.invariant.3 p has));
      frame = c.replace_lane.ensures.frame ∙ c.loop-lane.invariant.2;
    }

pub returns-clause-replaced : goal.returns-clause-replaced
returns-clause-replaced g c =
    let so_far = c.loop-lane.invariant in
    subst (λ r. IsChangedBy (Replaces (AnswersValue g.F.FnMut)) (ranked c.args.places).place r (g.S.Data.stored c.args.storage.now) (g.S.Data.stored c.loop-lane.storage) c.args.f c.loop-lane.now) (all_through c.args.places c.loop-lane.lanes so_far.0 c.in_default.ensures.lane.0) so_far.1

pub returns-clause-there : goal.returns-clause-there
returns-clause-there g c = c.loop-lane.invariant.3

pub returns-clause-frame : goal.returns-clause-frame
returns-clause-frame g c = c.loop-lane.invariant.2
