use Rattle.std.proofs.lemmas.Result.{err_from_is_err_and}
use Rattle.nd_elements.proofs.NamesFromOtherCrates.{◌≡◌, ◌<◌, ◌∙◌, ap, sym, subst, length, arith, Some, slice_get}
use Rattle.nd_elements.specs.elements.AssignedElements.{IsAssignedTo}
use Rattle.nd_elements.proofs.elements_lemmas.AssignedElements.{assigned_partly}
use Rattle.nd_elements.proofs.elements_lemmas.MappedElements.{on_err_from, got_there}
use Rattle.nd_elements.proofs.elements_lemmas.RunPairs.{number, numbers_distinct, item_assigned}
use Rattle.nd_elements.proofs.elements.assign.assign_slice.Goals as goal

pub loop-nth-preserved : goal.loop-nth-preserved
loop-nth-preserved g c =
    let nth = c.loop-nth.nth in
    let copy = c.in_ok-copy.copy in
    let there = got_there c.args.ys.now nth c.index-ys-nth.result c.loop-nth-test.true c.index-ys-nth.is in
    item_assigned c.args.xs.now c.loop-nth.xs nth copy c.loop-nth.auto.xs (subst (λ n. nth < n) c.requires.as_long c.loop-nth-test.true) (slice_get c.args.ys.now) c.loop-nth.invariant (ap Some (c.requires.clones nth c.index-ys-nth.result there copy c.in_ok-copy.ensures.cases) ∙ sym there)

pub returns-in_err-copy-clause-outcome : goal.returns-in_err-copy-clause-outcome
returns-in_err-copy-clause-outcome g c =
    let refused = err_from_is_err_and c.from_residual.result c.from_residual.ensures.1 in
    rw refused.1 (tt, assigned_partly (slice_get c.args.ys.now) number c.loop-nth.nth (length c.args.xs.now) (numbers_distinct (length c.args.xs.now)) (slice_get c.args.xs.now) (slice_get c.loop-nth.xs) c.loop-nth.invariant (omega (arith, c.loop-nth-test.true, c.requires.as_long)))

pub returns-in_err-copy-clause-refused : goal.returns-in_err-copy-clause-refused
returns-in_err-copy-clause-refused g c =
    on_err_from _ c.from_residual.result
    (c.loop-nth.nth, c.index-ys-nth.result, c.loop-nth-test.true, got_there c.args.ys.now c.loop-nth.nth c.index-ys-nth.result c.loop-nth-test.true c.index-ys-nth.is, c.in_err-copy.ensures.cases)

pub returns-clause-outcome : goal.returns-clause-outcome
returns-clause-outcome g c =
    let through : c.loop-nth.nth ≡ length c.args.xs.now = omega (arith, c.requires.as_long) in
    (subst (λ n. IsAssignedTo (slice_get c.args.ys.now) number n (slice_get c.args.xs.now) (slice_get c.loop-nth.xs)) through c.loop-nth.invariant, tt)
