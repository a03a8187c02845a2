use Rattle.nd_elements.proofs.NamesFromOtherCrates.{◌≡◌, ◌∙◌, Some, ap, sym, along}
use Rattle.nd_elements.specs.StoragePlaces.{stored_at}
use Rattle.nd_elements.specs.elements.ElementMaps.{AnswersValue, Replaces}
use Rattle.nd_elements.proofs.elements_lemmas.ElementsHandedToBeWritten.{changed_more}
use Rattle.nd_elements.proofs.elements_lemmas.ReplacedElements.{replaced_ran, still_next, written_here, written_elsewhere, written_keeps}
use Rattle.nd_elements.proofs.elements.mapv_inplace.replace_lane.Goals as goal

pub f-requires : goal.f-requires
f-requires g c =
    let place = (along c.args.lane).place in
    let old = g.S.Data.stored c.args.storage.now in
    let now = g.S.Data.stored c.loop-nth.storage in
    let k = c.loop-nth.nth in
    let still = still_next (AnswersValue g.F.FnMut) place c.args.lane.count k c.loop-nth-test.true c.requires.apart old now c.args.f c.loop-nth.f c.loop-nth.invariant.0 in
    let there : stored_at old (place k) ≡ Some c.element.result.now = sym still ∙ (ap (stored_at now) (sym c.place_of-place.ensures) ∙ c.element.ensures) in
    let copied : c.in_ok-copy.copy ≡ c.element.result.now = c.requires.clones k c.element.result.now c.loop-nth-test.true there c.in_ok-copy.copy c.in_ok-copy.ensures.cases in
    c.requires.callable k c.loop-nth.f c.loop-nth-test.true (replaced_ran (AnswersValue g.F.FnMut) place k old now c.args.f c.loop-nth.f c.loop-nth.invariant.0) c.in_ok-copy.copy (there ∙ ap Some (sym copied))

pub loop-nth-preserved : goal.loop-nth-preserved
loop-nth-preserved g c =
    let place = (along c.args.lane).place in
    let old = g.S.Data.stored c.args.storage.now in
    let now = g.S.Data.stored c.loop-nth.storage in
    let new = g.S.Data.stored c.replace.new.self in
    let k = c.loop-nth.nth in
    let p = c.place_of-place.result in
    let so_far = c.loop-nth.invariant in
    let still = still_next (AnswersValue g.F.FnMut) place c.args.lane.count k c.loop-nth-test.true c.requires.apart old now c.args.f c.loop-nth.f so_far.0 in
    let there : stored_at old (place k) ≡ Some c.element.result.now = sym still ∙ (ap (stored_at now) (sym c.place_of-place.ensures) ∙ c.element.ensures) in
    let copied : c.in_ok-copy.copy ≡ c.element.result.now = c.requires.clones k c.element.result.now c.loop-nth-test.true there c.in_ok-copy.copy c.in_ok-copy.ensures.cases in (
      changed_more (Replaces (AnswersValue g.F.FnMut)) place k c.args.lane.count p c.loop-nth-test.true c.requires.apart c.place_of-place.ensures old now new c.args.f c.loop-nth.f c.f.new.self so_far.0
          (c.f.result, written_here now new p c.f.result c.replace.ensures.new, (c.in_ok-copy.copy, c.element.ensures ∙ ap Some (sym copied), c.f.ensures))
          (written_elsewhere now new p c.f.result c.replace.ensures.new),
      c.replace.ensures.frame ∙ so_far.1,
      written_keeps now new p c.f.result c.replace.ensures.new old so_far.2,
    )
