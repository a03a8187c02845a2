use Rattle.nd_elements.proofs.NamesFromOtherCrates.{◌≡◌, ◌-◌, ◌∙◌, pos, ap, sym, subst, length, arith, slice_get, suc-eq-add-one}
use Rattle.nd_elements.specs.along.AccumulateAlongAxis.{ChangesAfter, TakesAfter, IsAccumulated}
use Rattle.nd_elements.proofs.along_lemmas.AccumulateOneLane.{next_accumulable, accumulated_more}
use Rattle.nd_elements.proofs.elements_lemmas.RunPairs.{number, numbers_distinct}
use Rattle.nd_elements.proofs.along.accumulate_contiguous.accumulate_slice.Goals as goal

pub change_after_slice-now-requires-clause-callable : goal.change_after_slice-now-requires-clause-callable
change_after_slice-now-requires-clause-callable g c =
    let nth = c.loop-nth.nth in
    let old = c.args.items.now in
    let now = c.loop-nth.items in
    subst (λ m. TakesAfter g.F.FnMut (slice_get now nth) (slice_get now m) c.loop-nth.now) (suc-eq-add-one nth)
    (next_accumulable g.F.FnMut number (length old) (numbers_distinct (length old)) (slice_get old) (slice_get now) c.args.f c.loop-nth.now nth (omega (arith, c.loop-nth-test.true)) c.loop-nth.invariant c.requires.callable)

pub loop-nth-preserved : goal.loop-nth-preserved
loop-nth-preserved g c =
    let nth = c.loop-nth.nth in
    let new = c.change_after_slice-now.new.items in
    accumulated_more g.F.FnMut number (length c.args.items.now) (numbers_distinct (length c.args.items.now)) (slice_get c.args.items.now) (slice_get c.loop-nth.items) c.args.f c.loop-nth.now
    nth (omega (arith, c.loop-nth-test.true)) (slice_get new) c.change_after_slice-now.result c.loop-nth.invariant
    (subst (λ m. ChangesAfter g.F.FnMut (slice_get c.loop-nth.items nth) (slice_get c.loop-nth.items m) (slice_get new m) c.loop-nth.now c.change_after_slice-now.result) (sym (suc-eq-add-one nth)) c.change_after_slice-now.ensures.called)
    (λ p other. c.change_after_slice-now.ensures.left p (λ e. other (e ∙ ap pos (sym (suc-eq-add-one nth)))))

pub returns-clause-accumulated : goal.returns-clause-accumulated
returns-clause-accumulated g c =
    let all : c.loop-nth.nth ≡ length c.args.items.now - 1 = omega (arith, c.loop-nth-test.false, c.loop-nth.auto.nth-end, c.requires.some) in
    subst (λ m. IsAccumulated g.F.FnMut number m (slice_get c.args.items.now) (slice_get c.loop-nth.items) c.args.f c.loop-nth.now) all c.loop-nth.invariant
