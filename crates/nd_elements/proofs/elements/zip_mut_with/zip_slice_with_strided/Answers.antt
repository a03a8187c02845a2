use Rattle.nd_elements.proofs.NamesFromOtherCrates.{◌<◌, ◌∙◌, ap, refl, sym, subst, along}
use Rattle.nd_elements.specs.StoragePlaces.{stored_at}
use Rattle.nd_elements.proofs.elements_lemmas.RunPairs.{item_takes, item_zipped}
use Rattle.nd_elements.proofs.elements.zip_mut_with.zip_slice_with_strided.Goals as goal

pub f-requires : goal.f-requires
f-requires g c =
    item_takes c.args.xs.now c.loop-nth.xs c.loop-nth.nth c.index-xs-nth.result c.loop-nth.auto.xs (subst (λ n. c.loop-nth.nth < n) c.requires.as_long c.loop-nth-test.true) g.F.FnMut (g.Z.Data.stored c.args.others.now) (along c.args.other_lane).place c.args.f c.loop-nth.f c.loop-nth.invariant c.element-other.result
    (ap (stored_at (g.Z.Data.stored c.args.others.now)) (sym c.place_of.ensures) ∙ c.element-other.ensures) c.index-xs-nth.result c.requires.callable _ _ refl refl

pub loop-nth-preserved : goal.loop-nth-preserved
loop-nth-preserved g c =
    item_zipped c.args.xs.now c.loop-nth.xs c.loop-nth.nth c.f.new.arg2 c.loop-nth.auto.xs (subst (λ n. c.loop-nth.nth < n) c.requires.as_long c.loop-nth-test.true) g.F.FnMut (g.Z.Data.stored c.args.others.now) (along c.args.other_lane).place c.args.f c.loop-nth.f c.loop-nth.invariant c.element-other.result
    (ap (stored_at (g.Z.Data.stored c.args.others.now)) (sym c.place_of.ensures) ∙ c.element-other.ensures) c.index-xs-nth.result c.f.new.self (record { shown = _; shows = refl; left = _; called = c.f.ensures; leaves = refl })
