use Rattle.nd_elements.proofs.NamesFromOtherCrates.{◌≡◌, ◌-◌, ◌∙◌, pos, ◌+ℤ◌, ◌*ℤ◌, ap, sym, subst, arith, suc-eq-add-one}
use Rattle.nd_elements.specs.StoragePlaces.{stored_at}
use Rattle.nd_elements.specs.along.AccumulateAlongAxis.{ChangesAfter, TakesAfter, IsAccumulated}
use Rattle.nd_elements.proofs.along_lemmas.AccumulateOneLane.{accumulated_there, next_accumulable, accumulated_more}
use Rattle.nd_elements.proofs.along.accumulate_axis.accumulate_strided.Goals as goal

pub change_after_strided-now-requires-clause-holds : goal.change_after_strided-now-requires-clause-holds
change_after_strided-now-requires-clause-holds g c k below =
    accumulated_there g.F.FnMut (λ k. pos c.args.lane.place +ℤ (pos k *ℤ c.args.lane.stride)) c.args.lane.count c.requires.apart (g.S.Data.stored c.args.storage.now) (g.S.Data.stored c.loop-nth.storage) c.args.f c.loop-nth.now
    c.loop-nth.nth k (omega (arith, c.loop-nth-test.true)) below c.loop-nth.invariant.0 c.requires.holds

pub change_after_strided-now-requires-clause-callable : goal.change_after_strided-now-requires-clause-callable
change_after_strided-now-requires-clause-callable g c =
    let lane = c.args.lane in
    let nth = c.loop-nth.nth in
    subst (λ m. TakesAfter g.F.FnMut (stored_at (g.S.Data.stored c.loop-nth.storage) (pos lane.place +ℤ (pos nth *ℤ lane.stride))) (stored_at (g.S.Data.stored c.loop-nth.storage) (pos lane.place +ℤ (pos m *ℤ lane.stride))) c.loop-nth.now) (suc-eq-add-one nth)
    (next_accumulable g.F.FnMut (λ k. pos lane.place +ℤ (pos k *ℤ lane.stride)) lane.count c.requires.apart (g.S.Data.stored c.args.storage.now) (g.S.Data.stored c.loop-nth.storage) c.args.f c.loop-nth.now
    nth (omega (arith, c.loop-nth-test.true)) c.loop-nth.invariant.0 c.requires.callable)

pub loop-nth-preserved : goal.loop-nth-preserved
loop-nth-preserved g c =
    let lane = c.args.lane in
    let nth = c.loop-nth.nth in
    let new = g.S.Data.stored c.change_after_strided-now.new.storage in
    let now = g.S.Data.stored c.loop-nth.storage in (
      accumulated_more g.F.FnMut (λ k. pos lane.place +ℤ (pos k *ℤ lane.stride)) lane.count c.requires.apart (g.S.Data.stored c.args.storage.now) now c.args.f c.loop-nth.now
          nth (omega (arith, c.loop-nth-test.true)) new c.change_after_strided-now.result c.loop-nth.invariant.0
          (subst (λ m. ChangesAfter g.F.FnMut (stored_at now (pos lane.place +ℤ (pos nth *ℤ lane.stride))) (stored_at now (pos lane.place +ℤ (pos m *ℤ lane.stride))) (stored_at new (pos lane.place +ℤ (pos m *ℤ lane.stride))) c.loop-nth.now c.change_after_strided-now.result) (sym (suc-eq-add-one nth)) c.change_after_strided-now.ensures.called)
          (λ p other. c.change_after_strided-now.ensures.left p (λ e. other (e ∙ ap (λ m. pos lane.place +ℤ (pos m *ℤ lane.stride)) (sym (suc-eq-add-one nth))))),
      c.change_after_strided-now.ensures.frame ∙ c.loop-nth.invariant.1,
    )

pub returns-clause-accumulated : goal.returns-clause-accumulated
returns-clause-accumulated g c =
    let all : c.loop-nth.nth ≡ c.args.lane.count - 1 = omega (arith, c.loop-nth-test.false, c.loop-nth.auto.nth-end, c.requires.some) in
    subst (λ m. IsAccumulated g.F.FnMut (λ k. pos c.args.lane.place +ℤ (pos k *ℤ c.args.lane.stride)) m (g.S.Data.stored c.args.storage.now) (g.S.Data.stored c.loop-nth.storage) c.args.f c.loop-nth.now) all c.loop-nth.invariant.0
