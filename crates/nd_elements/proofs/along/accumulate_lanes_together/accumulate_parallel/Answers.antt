use Rattle.nd_elements.proofs.NamesFromOtherCrates.{◌≡◌, ◌+◌, ◌-◌, ◌<◌, ◌∙◌, ℕ, suc, true, pos, ◌+ℤ◌, ◌*ℤ◌, ap, sym, subst, refl, rules, arith, w64, FitsSigned, to_z-of_z, suc-eq-add-one, sums, suc-mul, is_place}
use Rattle.nd_elements.specs.StoragePlaces.{stored_at, names_place}
use Rattle.nd_elements.specs.along.AxisLanes.{parallel_lanes, LanesDistinct}
use Rattle.nd_elements.specs.along.AccumulateAlongAxis.{run_of}
use Rattle.nd_elements.proofs.along_lemmas.AxisLanes.{parallel_place}
use Rattle.nd_elements.proofs.along_lemmas.RowPairs.{two_of, row_takes_alike, row_changes_alike}
use Rattle.nd_elements.proofs.along_lemmas.RowsAccumulating.{RowsAccumulated, rows_none, rows_all, rows_more, rows_apart, row_takes, row_there, next_there}
use Rattle.nd_elements.proofs.along.accumulate_lanes_together.accumulate_parallel.Goals as goal

pub loop-nth-preserved : goal.loop-nth-preserved
loop-nth-preserved g c =
    let lane = c.args.lane in let lanes = c.args.lanes in let nth = c.loop-nth.nth in let w = lane.count - 1 in
    let place = (parallel_lanes lanes lane).place in let now = g.S.Data.stored c.loop-nth.storage in
    let last : suc w ≡ lane.count = omega (arith, c.requires.some) in
    let apart : LanesDistinct place lanes (suc w) = subst (LanesDistinct place lanes) (sym last) c.requires.apart in let p = c.place_of.result in
    let q = c.place_of-in-loop-nth.result in
    let at_p : (r : ℕ) → pos (p + r) ≡ place r nth = λ r. parallel_place lane.place p r nth lane.stride c.place_of.ensures in
    let at_q : (r : ℕ) → pos (q + r) ≡ place r (suc nth) = λ r. parallel_place lane.place q r (nth + 1) lane.stride c.place_of-in-loop-nth.ensures ∙ ap (place r) (sym (suc-eq-add-one nth)) in
    let new = g.S.Data.stored c.change_row_contiguous-now.new.storage in (
      rows_more g.F.FnMut place lanes w apart (g.S.Data.stored c.args.storage.now) now c.args.f c.loop-nth.now nth c.loop-nth-test.true c.loop-nth.invariant.0 new c.change_row_contiguous-now.result
          (row_changes_alike g.F.FnMut (λ r. stored_at now (place r nth)) (run_of now p) (λ r. stored_at now (place r (suc nth))) (run_of now q) lanes (λ r on. ap (stored_at now) (at_p r)) (λ r on. ap (stored_at now) (at_q r))
          (run_of new q) (λ r. stored_at new (place r (suc nth))) (λ r on. ap (stored_at new) (at_q r)) c.loop-nth.now c.change_row_contiguous-now.result c.change_row_contiguous-now.ensures.changed)
          (λ i nowhere. c.change_row_contiguous-now.ensures.left i (λ r on e. nowhere r on (sym (at_q r) ∙ ap pos (sym e)))),
      c.change_row_contiguous-now.ensures.frame ∙ c.loop-nth.invariant.1,
    )

pub loop-nth-init : goal.loop-nth-init
loop-nth-init g c = (rows_none g.F.FnMut (parallel_lanes c.args.lanes c.args.lane).place c.args.lanes (g.S.Data.stored c.args.storage.now) c.args.f, refl)

pub returns-clause-accumulated : goal.returns-clause-accumulated
returns-clause-accumulated g c =
    let place = (parallel_lanes c.args.lanes c.args.lane).place in
    let all : c.loop-nth.nth ≡ c.args.lane.count - 1 = omega (arith, c.loop-nth-test.false, c.loop-nth.auto.nth-end, c.requires.some) in
    let old = g.S.Data.stored c.args.storage.now in let new = g.S.Data.stored c.loop-nth.storage in
    rows_all g.F.FnMut place c.args.lanes (c.args.lane.count - 1) old new c.args.f c.loop-nth.now (subst (λ m. RowsAccumulated g.F.FnMut place c.args.lanes m old new c.args.f c.loop-nth.now) all c.loop-nth.invariant.0)

pub change_row_contiguous-now-requires-clause-after : goal.change_row_contiguous-now-requires-clause-after
change_row_contiguous-now-requires-clause-after g c =
    let lane = c.args.lane in let nth = c.loop-nth.nth in let fits : FitsSigned w64 lane.stride = search rules in
    let more : pos (nth + 1) *ℤ lane.stride ≡ (pos nth *ℤ lane.stride) +ℤ lane.stride = subst (λ m. pos m *ℤ lane.stride ≡ (pos nth *ℤ lane.stride) +ℤ lane.stride) (suc-eq-add-one nth) (suc-mul nth lane.stride) in
    rw (to_z-of_z w64 lane.stride fits) (omega (arith, sums, c.place_of.ensures, c.place_of-in-loop-nth.ensures, more))

pub change_row_contiguous-now-requires-clause-checked : goal.change_row_contiguous-now-requires-clause-checked
change_row_contiguous-now-requires-clause-checked g c = two_of c.args.lanes c.args.lane.count (omega (arith, c.loop-nth-test.true)) c.requires.checked

pub change_row_contiguous-now-requires-clause-reach : goal.change_row_contiguous-now-requires-clause-reach
change_row_contiguous-now-requires-clause-reach g c =
    let lane = c.args.lane in let nth = c.loop-nth.nth in
    let under = c.loop-nth-test.true in (
      (λ r on. ap is_place (parallel_place lane.place c.place_of.result r nth lane.stride c.place_of.ensures) ∙ c.requires.lie r nth on (omega (arith, under))),
      (λ r on. ap is_place (parallel_place lane.place c.place_of-in-loop-nth.result r (nth + 1) lane.stride c.place_of-in-loop-nth.ensures) ∙ c.requires.lie r (nth + 1) on (omega (arith, under))),
    )

pub change_row_contiguous-now-requires-clause-apart : goal.change_row_contiguous-now-requires-clause-apart
change_row_contiguous-now-requires-clause-apart g c j k on_j on_k same =
    let lane = c.args.lane in let lanes = c.args.lanes in let nth = c.loop-nth.nth in let w = lane.count - 1 in
    let place = (parallel_lanes lanes lane).place in let old = g.S.Data.stored c.args.storage.now in let now = g.S.Data.stored c.loop-nth.storage in
    let last : suc w ≡ lane.count = omega (arith, c.requires.some) in
    let apart : LanesDistinct place lanes (suc w) = subst (LanesDistinct place lanes) (sym last) c.requires.apart in
    let at_p : (r : ℕ) → pos (c.place_of.result + r) ≡ place r nth = λ r. parallel_place lane.place c.place_of.result r nth lane.stride c.place_of.ensures in
    let at_q : (r : ℕ) → pos (c.place_of-in-loop-nth.result + r) ≡ place r (suc nth) = λ r. parallel_place lane.place c.place_of-in-loop-nth.result r (nth + 1) lane.stride c.place_of-in-loop-nth.ensures ∙ ap (place r) (sym (suc-eq-add-one nth)) in
    rows_apart g.F.FnMut place lanes w apart old now c.args.f c.loop-nth.now nth c.loop-nth-test.true c.loop-nth.invariant.0 j k on_j on_k (sym (at_p j) ∙ (ap pos same ∙ at_q k))

pub change_row_contiguous-now-requires-clause-holds : goal.change_row_contiguous-now-requires-clause-holds
change_row_contiguous-now-requires-clause-holds g c =
    let lane = c.args.lane in let lanes = c.args.lanes in let nth = c.loop-nth.nth in let w = lane.count - 1 in
    let place = (parallel_lanes lanes lane).place in let old = g.S.Data.stored c.args.storage.now in let now = g.S.Data.stored c.loop-nth.storage in
    let last : suc w ≡ lane.count = omega (arith, c.requires.some) in
    let apart : LanesDistinct place lanes (suc w) = subst (LanesDistinct place lanes) (sym last) c.requires.apart in
    let at_p : (r : ℕ) → pos (c.place_of.result + r) ≡ place r nth = λ r. parallel_place lane.place c.place_of.result r nth lane.stride c.place_of.ensures in
    let at_q : (r : ℕ) → pos (c.place_of-in-loop-nth.result + r) ≡ place r (suc nth) = λ r. parallel_place lane.place c.place_of-in-loop-nth.result r (nth + 1) lane.stride c.place_of-in-loop-nth.ensures ∙ ap (place r) (sym (suc-eq-add-one nth)) in
    let holds : (r k : ℕ) → r < lanes → k < suc w → names_place old (place r k) ≡ true = λ r k on below. c.requires.holds r k on (subst (λ n. k < n) last below) in (
      (λ r on. ap (names_place now) (at_p r) ∙ row_there g.F.FnMut place lanes w apart old now c.args.f c.loop-nth.now nth c.loop-nth-test.true c.loop-nth.invariant.0 holds r on),
      (λ r on. ap (names_place now) (at_q r) ∙ next_there g.F.FnMut place lanes w apart old now c.args.f c.loop-nth.now nth c.loop-nth-test.true c.loop-nth.invariant.0 holds r on),
    )

pub change_row_contiguous-now-requires-clause-callable : goal.change_row_contiguous-now-requires-clause-callable
change_row_contiguous-now-requires-clause-callable g c =
    let lane = c.args.lane in let lanes = c.args.lanes in let nth = c.loop-nth.nth in let w = lane.count - 1 in
    let place = (parallel_lanes lanes lane).place in let old = g.S.Data.stored c.args.storage.now in let now = g.S.Data.stored c.loop-nth.storage in
    let last : suc w ≡ lane.count = omega (arith, c.requires.some) in
    let apart : LanesDistinct place lanes (suc w) = subst (LanesDistinct place lanes) (sym last) c.requires.apart in
    let at_p : (r : ℕ) → pos (c.place_of.result + r) ≡ place r nth = λ r. parallel_place lane.place c.place_of.result r nth lane.stride c.place_of.ensures in
    let at_q : (r : ℕ) → pos (c.place_of-in-loop-nth.result + r) ≡ place r (suc nth) = λ r. parallel_place lane.place c.place_of-in-loop-nth.result r (nth + 1) lane.stride c.place_of-in-loop-nth.ensures ∙ ap (place r) (sym (suc-eq-add-one nth)) in
    row_takes_alike g.F.FnMut (λ r. stored_at now (place r nth)) (run_of now c.place_of.result) (λ r. stored_at now (place r (suc nth))) (run_of now c.place_of-in-loop-nth.result) lanes (λ r on. ap (stored_at now) (at_p r)) (λ r on. ap (stored_at now) (at_q r)) c.loop-nth.now
    (row_takes g.F.FnMut place lanes w apart old now c.args.f c.loop-nth.now nth c.loop-nth-test.true c.loop-nth.invariant.0 c.requires.callable)
