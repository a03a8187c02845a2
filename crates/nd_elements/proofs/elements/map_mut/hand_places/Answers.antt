use Rattle.nd_elements.proofs.NamesFromOtherCrates.{[], ◌∙◌, sym, subst, arith, vec_len, vec_capacity, along, ranked, go_on, lane_of, all_through}
use Rattle.nd_elements.specs.elements.ElementChanges.{IsChangedBy}
use Rattle.nd_elements.specs.elements.ElementMaps.{Replaces}
use Rattle.nd_elements.specs.elements.ElementMapsMut.{LeavesAndAnswers, MayBeHanded, Collects, TakesCollecting}
use Rattle.nd_elements.proofs.elements_lemmas.ElementsHandedToBeWritten.{changed_then}
use Rattle.nd_elements.proofs.along_lemmas.LanePart.{lane_apart, still_holds, room_first}
use Rattle.nd_elements.proofs.elements_lemmas.ReplacedElements.{replaced_takes}
use Rattle.nd_elements.proofs.elements.map_mut.hand_places.Goals as goal

pub hand_strided-now-requires-clause-apart : goal.hand_strided-now-requires-clause-apart
hand_strided-now-requires-clause-apart g c = lane_apart c.args.places c.loop-lane.lanes c.in-Some.lane c.loop-lane.invariant.0 c.in-Some.ensures.lane.0 c.requires.apart

pub hand_strided-now-requires-clause-holds : goal.hand_strided-now-requires-clause-holds
hand_strided-now-requires-clause-holds g c = still_holds c.args.places c.loop-lane.lanes c.in-Some.lane c.loop-lane.invariant.0 c.in-Some.ensures.lane.0 (g.S.Data.stored c.args.storage.now) (g.S.Data.stored c.loop-lane.storage) c.requires.apart c.loop-lane.invariant.1.left c.requires.holds

pub hand_strided-now-requires-clause-room : goal.hand_strided-now-requires-clause-room
hand_strided-now-requires-clause-room g c = room_first c.args.places c.loop-lane.lanes c.in-Some.lane c.loop-lane.invariant.0 c.in-Some.ensures.lane.0 (vec_len c.loop-lane.items) (vec_capacity c.loop-lane.items) c.loop-lane.invariant.2 c.loop-lane.invariant.3

pub hand_strided-now-requires-clause-callable : goal.hand_strided-now-requires-clause-callable
hand_strided-now-requires-clause-callable g c =
    let lane = c.in-Some.lane in let at = ranked c.args.places in
    let lies = lane_of c.args.places c.loop-lane.lanes c.in-Some.lane c.loop-lane.invariant.0 c.in-Some.ensures.lane.0 in
    replaced_takes (Collects (LeavesAndAnswers g.F.FnMut)) (TakesCollecting (MayBeHanded g.F.FnMut)) at.place (along lane).place c.loop-lane.lanes.rank lane.count at.count lies.within c.requires.apart lies.places
    (g.S.Data.stored c.args.storage.now) (g.S.Data.stored c.loop-lane.storage) (c.args.f, []) (c.loop-lane.now, c.loop-lane.items.items) c.loop-lane.invariant.1 c.requires.callable

pub loop-lane-preserved : goal.loop-lane-preserved
loop-lane-preserved g c =
    let so_far = c.loop-lane.invariant in let at = ranked c.args.places in let old = g.S.Data.stored c.args.storage.now in
    let new = g.S.Data.stored c.hand_strided-now.new.storage in let items = c.hand_strided-now.new.items.items in
    let given = c.in-Some.ensures.lane in
    let lies = lane_of c.args.places c.loop-lane.lanes c.in-Some.lane so_far.0 given.0 in (
      go_on c.args.places c.loop-lane.lanes c.next.new.self so_far.0 c.in-Some.ensures.over,
      subst (λ r. IsChangedBy (Replaces (Collects (LeavesAndAnswers g.F.FnMut))) at.place r old new (c.args.f, []) (c.hand_strided-now.result, items)) (sym given.1)
          (changed_then (Replaces (Collects (LeavesAndAnswers g.F.FnMut))) at.place (along c.in-Some.lane).place c.loop-lane.lanes.rank c.in-Some.lane.count at.count lies.within c.requires.apart lies.places
          old (g.S.Data.stored c.loop-lane.storage) new (c.args.f, []) (c.loop-lane.now, c.loop-lane.items.items) (c.hand_strided-now.result, items) so_far.1 c.hand_strided-now.ensures.handed),
      (let e = so_far.2 in let l = c.hand_strided-now.ensures.len in let n = given.1 in omega (arith, e, l, n)),
      (let e = so_far.3 in let l = c.hand_strided-now.ensures.room in omega (arith, e, l)),
      c.hand_strided-now.ensures.frame ∙ so_far.4,
    )

pub returns-clause-handed : goal.returns-clause-handed
returns-clause-handed g c =
    let so_far = c.loop-lane.invariant in
    subst (λ r. IsChangedBy (Replaces (Collects (LeavesAndAnswers g.F.FnMut))) (ranked c.args.places).place r (g.S.Data.stored c.args.storage.now) (g.S.Data.stored c.loop-lane.storage) (c.args.f, []) (c.loop-lane.now, c.loop-lane.items.items)) (all_through c.args.places c.loop-lane.lanes so_far.0 c.in_default.ensures.lane.0) so_far.1

pub returns-clause-count : goal.returns-clause-count
returns-clause-count g c = let so_far = c.loop-lane.invariant in so_far.2 ∙ all_through c.args.places c.loop-lane.lanes so_far.0 c.in_default.ensures.lane.0

pub returns-clause-frame : goal.returns-clause-frame
returns-clause-frame g c = c.loop-lane.invariant.4
