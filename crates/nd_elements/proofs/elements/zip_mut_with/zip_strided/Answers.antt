use Rattle.nd_elements.proofs.NamesFromOtherCrates.{◌≡◌, Some, pos, ◌+ℤ◌, ◌*ℤ◌, ap, sym, subst, ◌∙◌, along}
use Rattle.nd_elements.specs.StoragePlaces.{stored_at}
use Rattle.nd_elements.specs.elements.PairsWithOneWritten.{ChangesWith}
use Rattle.nd_elements.proofs.RewrittenElements.{rewritten_more}
use Rattle.nd_elements.proofs.elements_lemmas.PairedElements.{next_zipped}
use Rattle.nd_elements.proofs.elements.zip_mut_with.zip_strided.Goals as goal

pub change_with-now-requires-clause-callable : goal.change_with-now-requires-clause-callable
change_with-now-requires-clause-callable g c =
    let place = (along c.args.lane).place in
    let other_lane = (along c.args.other_lane).place in
    next_zipped g.F.FnMut (g.Z.Data.stored c.args.others.now) place other_lane c.args.lane.count c.loop-nth.nth c.place_of-in-loop-nth.result c.element-other.result.now c.loop-nth-test.true c.requires.apart c.place_of-in-loop-nth.ensures
    (sym (ap (stored_at (g.Z.Data.stored c.args.others.now)) (sym c.place_of.ensures) ∙ c.element-other.ensures))
    (g.S.Data.stored c.args.storage.now) (g.S.Data.stored c.loop-nth.storage) c.args.f c.loop-nth.now c.loop-nth.invariant.0 c.requires.callable

pub loop-nth-preserved : goal.loop-nth-preserved
loop-nth-preserved g c =
    let other = c.args.other_lane in
    let others = g.Z.Data.stored c.args.others.now in
    let now = g.S.Data.stored c.loop-nth.storage in
    let new = g.S.Data.stored c.change_with-now.new.storage in
    let p = c.place_of-in-loop-nth.result in
    let is_other : Some c.element-other.result.now ≡ stored_at others (pos other.place +ℤ (pos c.loop-nth.nth *ℤ other.stride)) = sym (ap (stored_at others) (sym c.place_of.ensures) ∙ c.element-other.ensures) in (
      rewritten_more (λ k o w p q. ChangesWith g.F.FnMut (stored_at others (pos other.place +ℤ (pos k *ℤ other.stride))) o w p q) (along c.args.lane).place c.loop-nth.nth c.args.lane.count p c.loop-nth-test.true c.requires.apart c.place_of-in-loop-nth.ensures
          (g.S.Data.stored c.args.storage.now) now new c.args.f c.loop-nth.now c.change_with-now.result c.loop-nth.invariant.0
          (subst (λ o. ChangesWith g.F.FnMut o (now p) (new p) c.loop-nth.now c.change_with-now.result) is_other c.change_with-now.ensures.called) c.change_with-now.ensures.left,
      c.change_with-now.ensures.frame ∙ c.loop-nth.invariant.1,
    )
