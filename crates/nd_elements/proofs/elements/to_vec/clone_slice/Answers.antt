use Rattle.nd_elements.proofs.NamesFromOtherCrates.{◌≡◌, ◌∙◌, ◌+◌, ◌++◌, ap, refl, arith, slice_get_read, Some, length, slice_get, vec_len}
use Rattle.nd_elements.specs.CollectedElements.{collected}
use Rattle.nd_elements.proofs.elements_lemmas.ElementsCollectedInOrder.{one_after}
use Rattle.nd_elements.proofs.elements.to_vec.clone_slice.Goals as goal

pub loop-nth-preserved : goal.loop-nth-preserved
loop-nth-preserved g c =
    let run = c.args.run.now in
    let nth = c.loop-nth.nth in
    let x = c.index-run-nth.result in
    let there : slice_get run nth ≡ Some x = slice_get_read run (length run) nth x refl (omega (arith, c.loop-nth-test.true)) c.index-run-nth.is in
    let so_far = c.loop-nth.invariant in
    let put = c.push_reserved.ensures in (
      one_after (slice_get run) nth c.args.items.items c.loop-nth.items.items c.push_reserved.new.self.items x c.in-Ok.copy so_far.0 put.items (c.requires.clones nth x there c.in-Ok.copy c.in-Ok.ensures.cases) there,
      omega (arith, put.len, so_far.1),
      put.capacity ∙ so_far.2,
    )

pub returns-in-Err-clause-room : goal.returns-in-Err-clause-room
returns-in-Err-clause-room g c = c.loop-nth.invariant.2

pub returns-in-Err-clause-kept : goal.returns-in-Err-clause-kept
returns-in-Err-clause-kept g c = (collected (slice_get c.args.run.now) c.loop-nth.nth, c.loop-nth.invariant.0)

pub returns-in-Err-clause-refused : goal.returns-in-Err-clause-refused
returns-in-Err-clause-refused g c =
    let x = c.index-run-nth.result in
    (c.loop-nth.nth, x, c.loop-nth-test.true, slice_get_read c.args.run.now (length c.args.run.now) c.loop-nth.nth x refl (omega (arith, c.loop-nth-test.true)) c.index-run-nth.is, c.in-Err.ensures.cases)

pub returns-clause-items : goal.returns-clause-items
returns-clause-items g c =
    let run = c.args.run.now in
    let through : c.loop-nth.nth ≡ length run = omega arith in
    c.loop-nth.invariant.0 ∙ ap (λ n. c.args.items.items ++ collected (slice_get run) n) through

pub returns-clause-len : goal.returns-clause-len
returns-clause-len g c =
    let through : c.loop-nth.nth ≡ length c.args.run.now = omega arith in
    c.loop-nth.invariant.1 ∙ ap (λ n. vec_len c.args.items + n) through

pub returns-clause-room : goal.returns-clause-room
returns-clause-room g c = c.loop-nth.invariant.2
