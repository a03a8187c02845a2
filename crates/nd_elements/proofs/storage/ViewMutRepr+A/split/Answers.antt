use Rattle.nd_elements.proofs.NamesFromOtherCrates.{◌∙◌, stored_in, names, names_not, region_stored, part_stored}
use Rattle.nd_elements.specs.StoragePlaces.{kept_at}
use Rattle.nd_elements.proofs.storage.ViewMutRepr+A.split.Goals as goal

pub returns-clause-taken : goal.returns-clause-taken
returns-clause-taken g c p =
    let region = c.args.self.now.region in let offset = c.args.layout.now.offset in
    (λ i. stored_in (c.split.ensures.taken.0 i) (c.split.ensures.taken.1 i) p) ∙ part_stored (names offset c.slice.result.now c.slice-2.result.now) region.items region.held p
    ∙ (λ i. kept_at (names offset (c.slice.ensures.lengths i) (c.slice-2.ensures i)) (region_stored region) p)

pub returns-clause-left : goal.returns-clause-left
returns-clause-left g c p =
    let region = c.args.self.now.region in let offset = c.args.layout.now.offset in
    (λ i. stored_in (c.split.ensures.left.0 i) (c.split.ensures.left.1 i) p) ∙ part_stored (names_not offset c.slice.result.now c.slice-2.result.now) region.items region.held p
    ∙ (λ i. kept_at (names_not offset (c.slice.ensures.lengths i) (c.slice-2.ensures i)) (region_stored region) p)
