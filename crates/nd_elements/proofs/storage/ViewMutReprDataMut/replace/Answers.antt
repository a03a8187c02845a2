use Rattle.nd_elements.proofs.NamesFromOtherCrates.{◌∙◌, ap, region_stored, written_map}
use Rattle.nd_elements.proofs.storage.ViewMutReprDataMut.replace.Goals as goal

pub returns-clause-new : goal.returns-clause-new
returns-clause-new g c p =
    ap (λ r. region_stored r p) c.replace.ensures.new ∙ written_map c.args.self.now.region.items c.args.self.now.region.held c.args.place p c.args.value c.requires
