use Rattle.std.proofs.lemmas.Result.{err_from_is_err_and}
use Rattle.nd_elements.proofs.NamesFromOtherCrates.{◌≡◌, ◌<◌, Some, ap, sym, subst, ◌∙◌, arith, along}
use Rattle.nd_elements.specs.ElementsAtNumberedPlaces.{elements_at}
use Rattle.nd_elements.specs.StoragePlaces.{stored_at}
use Rattle.nd_elements.proofs.WriteAtOneIndex.{written_there}
use Rattle.nd_elements.proofs.elements_lemmas.AssignedElements.{moved_more, assigned_partly}
use Rattle.nd_elements.proofs.elements_lemmas.ReplacedElements.{written_elsewhere}
use Rattle.nd_elements.proofs.elements.assign.assign_strided.Goals as goal

pub loop-nth-preserved : goal.loop-nth-preserved
loop-nth-preserved g c =
    let at = along c.args.lane in
    let given = elements_at g.Z.Data.stored (along c.args.other_lane) c.args.others.now in
    let nth = c.loop-nth.nth in
    let now = g.S.Data.stored c.loop-nth.storage in
    let new = g.S.Data.stored c.replace.new.self in
    let copy = c.in_ok-copy.copy in
    let there : given nth ≡ Some c.element-other.result.now = ap (stored_at (g.Z.Data.stored c.args.others.now)) (sym c.place_of.ensures) ∙ c.element-other.ensures in
    let copied : copy ≡ c.element-other.result.now = c.requires.clones nth c.element-other.result.now (subst (λ n. nth < n) (sym c.requires.as_long) c.loop-nth-test.true) there copy c.in_ok-copy.ensures.cases in (
      moved_more given at.place nth at.count c.place_of-in-loop-nth.result c.loop-nth-test.true c.requires.apart c.place_of-in-loop-nth.ensures
          (g.S.Data.stored c.args.storage.now) now new c.loop-nth.invariant.0
          (written_there now new c.place_of-in-loop-nth.result copy c.replace.ensures.new ∙ (ap Some copied ∙ sym there))
          (written_elsewhere now new c.place_of-in-loop-nth.result copy c.replace.ensures.new),
      c.replace.ensures.frame ∙ c.loop-nth.invariant.1,
    )

pub returns-in_err-copy-clause-outcome : goal.returns-in_err-copy-clause-outcome
returns-in_err-copy-clause-outcome g c =
    let at = along c.args.lane in
    let refused = err_from_is_err_and c.from_residual.result c.from_residual.ensures.1 in
    rw refused.1 (tt, assigned_partly (elements_at g.Z.Data.stored (along c.args.other_lane) c.args.others.now) at.place c.loop-nth.nth at.count c.requires.apart (g.S.Data.stored c.args.storage.now) (g.S.Data.stored c.loop-nth.storage) c.loop-nth.invariant.0 (omega (arith, c.loop-nth-test.true)))
