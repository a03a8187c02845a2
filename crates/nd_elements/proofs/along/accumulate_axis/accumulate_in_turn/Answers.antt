use Rattle.nd_elements.proofs.NamesFromOtherCrates.{◌≡◌, ◌-◌, ◌<◌, ◌∙◌, suc, refl, ap, sym, subst, arith, along}
use Rattle.nd_elements.specs.along.AxisLanes.{LanesDistinct}
use Rattle.nd_elements.specs.along.PlacesOfAxisLanes.{lanes_in}
use Rattle.nd_elements.proofs.along_lemmas.AxisLanes.{lane_in_turn}
use Rattle.nd_elements.proofs.along_lemmas.RotatedLanes.{lane_apart}
use Rattle.nd_elements.proofs.along_lemmas.LanesAccumulating.{LanesAccumulated, lanes_none, lanes_all, given_accumulable, given_holds, given_accumulated}
use Rattle.nd_elements.proofs.along.accumulate_axis.accumulate_in_turn.Goals as goal

pub accumulate_lane-now-requires-clause-apart : goal.accumulate_lane-now-requires-clause-apart
accumulate_lane-now-requires-clause-apart g c =
    let at = lanes_in c.args.lanes in let here = lane_in_turn c.in-Some.lane c.loop-lane.invariant.0 c.in-Some.ensures.lane.0 in
    let lane = along c.in-Some.lane in
    lane_apart at.place at.count (λ k. k) (g.S.Data.stored c.args.storage.now) c.loop-lane.turns.given at.lanes here.0 c.requires.apart lane.place lane.count here.1 here.2

pub accumulate_lane-now-requires-clause-holds : goal.accumulate_lane-now-requires-clause-holds
accumulate_lane-now-requires-clause-holds g c =
    let at = lanes_in c.args.lanes in let here = lane_in_turn c.in-Some.lane c.loop-lane.invariant.0 c.in-Some.ensures.lane.0 in
    let lane = along c.in-Some.lane in let last : suc (at.count - 1) ≡ at.count = omega (arith, c.requires.some) in
    given_holds g.F.FnMut at.place at.lanes (at.count - 1) (subst (LanesDistinct at.place at.lanes) (sym last) c.requires.apart) (g.S.Data.stored c.args.storage.now) (g.S.Data.stored c.loop-lane.storage) c.args.f c.loop-lane.now c.loop-lane.turns.given here.0 c.loop-lane.invariant.1
    lane.place lane.count (ap (λ m. m - 1) here.1) here.2 (λ q k on_q below. c.requires.holds q k on_q (subst (λ n. k < n) last below)) (subst (λ n. 0 < n) (sym here.1) c.requires.some)

pub accumulate_lane-now-requires-clause-callable : goal.accumulate_lane-now-requires-clause-callable
accumulate_lane-now-requires-clause-callable g c =
    let at = lanes_in c.args.lanes in let here = lane_in_turn c.in-Some.lane c.loop-lane.invariant.0 c.in-Some.ensures.lane.0 in
    let lane = along c.in-Some.lane in let last : suc (at.count - 1) ≡ at.count = omega (arith, c.requires.some) in
    given_accumulable g.F.FnMut at.place at.lanes (at.count - 1) (subst (LanesDistinct at.place at.lanes) (sym last) c.requires.apart) (g.S.Data.stored c.args.storage.now) (g.S.Data.stored c.loop-lane.storage) c.args.f c.loop-lane.now c.loop-lane.turns.given here.0 c.loop-lane.invariant.1
    lane.place lane.count (ap (λ m. m - 1) here.1) here.2 c.requires.callable

pub loop-lane-preserved : goal.loop-lane-preserved
loop-lane-preserved g c =
    let at = lanes_in c.args.lanes in let so_far = c.loop-lane.invariant in
    let here = lane_in_turn c.in-Some.lane so_far.0 c.in-Some.ensures.lane.0 in let lane = along c.in-Some.lane in
    let last : suc (at.count - 1) ≡ at.count = omega (arith, c.requires.some) in (
      c.in-Some.ensures.lanes ∙ so_far.0,
      given_accumulated g.F.FnMut at.place at.lanes (at.count - 1) (subst (LanesDistinct at.place at.lanes) (sym last) c.requires.apart) (g.S.Data.stored c.args.storage.now) (g.S.Data.stored c.loop-lane.storage) c.args.f c.loop-lane.now c.loop-lane.turns.given here.0 so_far.1
          lane.place lane.count (ap (λ m. m - 1) here.1) here.2 c.next.new.self.given c.in-Some.ensures.lane.1 (g.S.Data.stored c.accumulate_lane-now.new.storage) c.accumulate_lane-now.result c.accumulate_lane-now.ensures.accumulated,
      c.accumulate_lane-now.ensures.frame ∙ so_far.2,
    )

pub loop-lane-init : goal.loop-lane-init
loop-lane-init g c =
    let at = lanes_in c.args.lanes in
    let stored = g.S.Data.stored c.args.storage.now in (
      c.in_turn-turns.ensures.lanes,
      subst (λ r. LanesAccumulated g.F.FnMut at.place r (at.count - 1) stored stored c.args.f c.args.f) (sym c.in_turn-turns.ensures.given) (lanes_none g.F.FnMut at.place (at.count - 1) stored c.args.f),
      refl,
    )

pub returns-clause-accumulated : goal.returns-clause-accumulated
returns-clause-accumulated g c =
    let at = lanes_in c.args.lanes in let old = g.S.Data.stored c.args.storage.now in let new = g.S.Data.stored c.loop-lane.storage in
    lanes_all g.F.FnMut at.place at.lanes (at.count - 1) old new c.args.f c.loop-lane.now
    (subst (λ r. LanesAccumulated g.F.FnMut at.place r (at.count - 1) old new c.args.f c.loop-lane.now) (c.in_default.ensures.lane ∙ ap (λ l. (lanes_in l).lanes) c.loop-lane.invariant.0) c.loop-lane.invariant.1)
