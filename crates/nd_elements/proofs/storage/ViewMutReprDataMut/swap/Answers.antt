use Rattle.nd_elements.proofs.NamesFromOtherCrates.{◌∙◌, ap, region_stored, swapped_map}
use Rattle.nd_elements.proofs.storage.ViewMutReprDataMut.swap.Goals as goal

pub returns-clause-new : goal.returns-clause-new
returns-clause-new g c r =
    ap (λ s. region_stored s r) c.swap.ensures ∙ swapped_map c.args.self.now.region.items c.args.self.now.region.held c.args.p c.args.q r c.requires.p c.requires.q
