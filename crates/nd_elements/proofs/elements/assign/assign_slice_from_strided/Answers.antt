use Rattle.std.proofs.lemmas.Result.{err_from_is_err_and}
use Rattle.nd_elements.proofs.NamesFromOtherCrates.{◌≡◌, ◌<◌, ◌∙◌, ap, sym, subst, length, arith, Some, slice_get, along}
use Rattle.nd_elements.specs.ElementsAtNumberedPlaces.{elements_at}
use Rattle.nd_elements.specs.StoragePlaces.{stored_at}
use Rattle.nd_elements.proofs.elements_lemmas.AssignedElements.{assigned_partly}
use Rattle.nd_elements.proofs.elements_lemmas.RunPairs.{number, numbers_distinct, item_assigned}
use Rattle.nd_elements.proofs.elements.assign.assign_slice_from_strided.Goals as goal

pub loop-nth-preserved : goal.loop-nth-preserved
loop-nth-preserved g c =
    let nth = c.loop-nth.nth in
    let given = elements_at g.Z.Data.stored (along c.args.other_lane) c.args.others.now in
    let copy = c.in_ok-copy.copy in
    let there : given nth ≡ Some c.element-other.result.now = ap (stored_at (g.Z.Data.stored c.args.others.now)) (sym c.place_of.ensures) ∙ c.element-other.ensures in
    let copied : copy ≡ c.element-other.result.now = c.requires.clones nth c.element-other.result.now c.loop-nth-test.true there copy c.in_ok-copy.ensures.cases in
    item_assigned c.args.xs.now c.loop-nth.xs nth copy c.loop-nth.auto.xs (subst (λ n. nth < n) c.requires.as_long c.loop-nth-test.true) given c.loop-nth.invariant (ap Some copied ∙ sym there)

pub returns-in_err-copy-clause-outcome : goal.returns-in_err-copy-clause-outcome
returns-in_err-copy-clause-outcome g c =
    let refused = err_from_is_err_and c.from_residual.result c.from_residual.ensures.1 in
    rw refused.1 (tt, assigned_partly (elements_at g.Z.Data.stored (along c.args.other_lane) c.args.others.now) number c.loop-nth.nth (length c.args.xs.now) (numbers_distinct (length c.args.xs.now)) (slice_get c.args.xs.now) (slice_get c.loop-nth.xs) c.loop-nth.invariant (omega (arith, c.loop-nth-test.true, c.requires.as_long)))
