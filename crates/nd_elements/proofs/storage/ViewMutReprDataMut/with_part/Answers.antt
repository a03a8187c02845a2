use Rattle.nd_elements.proofs.NamesFromOtherCrates.{refl, region_stored, long_there}
use Rattle.nd_elements.proofs.tasks.StoragePartLent.{part_is}
use Rattle.nd_elements.proofs.storage.ViewMutReprDataMut.with_part.Goals as goal

pub with_part-requires-clause-callable : goal.with_part-requires-clause-callable
with_part-requires-clause-callable g c x part =
    c.requires.callable x (part_is (region_stored c.args.self.now.region) c.args.self.now.region (λ p. refl) c.args.places.first c.args.places.lengths.now c.args.places.strides.now x part)

pub with_part-requires-clause-returns : goal.with_part-requires-clause-returns
with_part-requires-clause-returns g c x out part post =
    c.requires.returns x out (part_is (region_stored c.args.self.now.region) c.args.self.now.region (λ p. refl) c.args.places.first c.args.places.lengths.now c.args.places.strides.now x part) post

pub returns-clause-part : goal.returns-clause-part
returns-clause-part g c =
    let e = c.with_part.ensures.part in
    (e.0, e.1, part_is (region_stored c.args.self.now.region) c.args.self.now.region (λ p. refl) c.args.places.first c.args.places.lengths.now c.args.places.strides.now e.0 e.2, e.3, e.4)

pub returns-clause-there : goal.returns-clause-there
returns-clause-there g c p = long_there c.args.self.now.region c.with_part.new.self p c.with_part.ensures.same c.with_part.ensures.long
