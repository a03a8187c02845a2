use Rattle.nd_elements.proofs.NamesFromOtherCrates.{ap, sym, ◌∙◌, along}
use Rattle.nd_elements.specs.StoragePlaces.{stored_at}
use Rattle.nd_elements.specs.elements.ElementChanges.{ChangesElement}
use Rattle.nd_elements.proofs.elements_lemmas.ElementsHandedToBeWritten.{changed_more, next_taken}
use Rattle.nd_elements.proofs.elements.map_inplace.change_strided.Goals as goal

pub change_element-now-requires-clause-callable : goal.change_element-now-requires-clause-callable
change_element-now-requires-clause-callable g c x is =
    let at = along c.args.lane in
    next_taken g.F.FnMut at.place at.count c.loop-nth.nth c.loop-nth-test.true c.requires.apart (g.S.Data.stored c.args.storage.now) (g.S.Data.stored c.loop-nth.storage) c.args.f c.loop-nth.now c.loop-nth.invariant.0 c.requires.callable x
    (ap (stored_at (g.S.Data.stored c.loop-nth.storage)) (sym c.place_of.ensures) ∙ is)

pub loop-nth-preserved : goal.loop-nth-preserved
loop-nth-preserved g c =
    let at = along c.args.lane in (
      changed_more (ChangesElement g.F.FnMut) at.place c.loop-nth.nth at.count c.place_of.result c.loop-nth-test.true c.requires.apart c.place_of.ensures
          (g.S.Data.stored c.args.storage.now) (g.S.Data.stored c.loop-nth.storage) (g.S.Data.stored c.change_element-now.new.storage) c.args.f c.loop-nth.now c.change_element-now.result
          c.loop-nth.invariant.0 c.change_element-now.ensures.called c.change_element-now.ensures.left,
      c.change_element-now.ensures.frame ∙ c.loop-nth.invariant.1,
    )
