use Rattle.nd_elements.proofs.NamesFromOtherCrates.{ap, sym, ◌∙◌, slice_get, region_stored}
use Rattle.nd_elements.proofs.tasks.StoragePartLent.{places_held, part_is, with_named_is, whole_holds, whole_left}
use Rattle.nd_elements.proofs.storage.part_of_slice.Goals as goal

pub with_region-requires-clause-callable : goal.with_region-requires-clause-callable
with_region-requires-clause-callable g c r whole =
    let xs = c.args.items.now in
    let ns = c.args.places.lengths.now in
    let ss = c.args.places.strides.now in
    let same = whole_holds r xs whole in (
      places_held (slice_get xs) r same c.args.places.first ns ss c.requires.holds,
      λ x part. c.requires.callable x (part_is (slice_get xs) r same c.args.places.first ns ss x part),
      λ x out part post. c.requires.returns x out (part_is (slice_get xs) r same c.args.places.first ns ss x part) post,
    )

pub returns-clause-part : goal.returns-clause-part
returns-clause-part g c =
    let xs = c.args.items.now in
    let ns = c.args.places.lengths.now in
    let ss = c.args.places.strides.now in
    let e = c.with_region.ensures in
    let same = whole_holds e.0 xs e.2 in
    let part = e.3.1.0 in (
      part.0,
      part.1,
      part_is (slice_get xs) e.0 same c.args.places.first ns ss part.0 part.2,
      part.3,
      λ p. ap (λ l. slice_get l p) e.4 ∙ sym (whole_left e.0 e.1 xs e.2 e.3.1.1.0 e.3.1.1.1 p) ∙ part.4 p ∙ with_named_is (slice_get xs) e.0 same c.args.places.first ns ss (region_stored part.1) p,
    )
