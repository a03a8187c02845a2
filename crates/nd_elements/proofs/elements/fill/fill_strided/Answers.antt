use Rattle.nd_elements.proofs.NamesFromOtherCrates.{◌≡◌, ◌∙◌, ℕ, ap, along}
use Rattle.nd_elements.specs.StoragePlaces.{written_at}
use Rattle.nd_elements.proofs.elements_lemmas.FilledPlaces.{filled_more}
use Rattle.nd_elements.proofs.elements.fill.fill_strided.Goals as goal

pub loop-nth-preserved : goal.loop-nth-preserved
loop-nth-preserved g c =
    let now = g.S.Data.stored c.loop-nth.storage in
    let new = g.S.Data.stored c.replace.new.self in
    let is : (q : ℕ) → new q ≡ written_at now c.place_of.result c.args.value.now q = λ q. c.replace.ensures.new q ∙ ap (λ x. written_at now c.place_of.result x q) (c.requires.clones c.in_ok-copy.copy c.in_ok-copy.ensures.cases) in (
      filled_more c.args.value.now (along c.args.lane).place (g.S.Data.stored c.args.storage.now) now new c.loop-nth.nth c.place_of.result c.place_of.ensures is c.loop-nth.invariant.0,
      c.replace.ensures.frame ∙ c.loop-nth.invariant.1,
    )
