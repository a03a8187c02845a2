use Rattle.std.proofs.Common.{◌∙◌, ap, length}
use Rattle.nd_region.specs.Region.{region_stored}
use Rattle.nd_region.specs.RegionPlaces.{names_either}
use Rattle.nd_region.proofs.RejoinedRegionMap.{part_back, back_long}
use Rattle.nd_region.proofs.divided_mutable_borrow.Region.with_either.Goals as goal

pub returns-clause-part : goal.returns-clause-part
returns-clause-part g c =
    let r = c.args.self.now in
    let either = names_either c.args.offset c.args.lengths.now c.args.strides.now c.args.from c.args.sizes.now c.args.steps.now in
    let e = c.split_either.ensures in (
      e.0,
      e.2,
      e.4,
      e.6.2.0,
      λ p. ap (λ s. region_stored s p) e.7 ∙ part_back either r e.0 e.2 e.3 e.4 e.8 (ap (λ y. y.items) e.6.2.1 ∙ e.5.0) p (c.requires.returns e.0 (e.2, c.split_either.result) e.4 e.6.2.0),
    )

pub returns-clause-long : goal.returns-clause-long
returns-clause-long g c =
    let r = c.args.self.now in
    let e = c.split_either.ensures in
    ap (λ s. length s.items) e.7 ∙ back_long (names_either c.args.offset c.args.lengths.now c.args.strides.now c.args.from c.args.sizes.now c.args.steps.now) r e.0 e.2 e.3 e.4 e.8 (ap (λ y. y.items) e.6.2.1 ∙ e.5.0)
