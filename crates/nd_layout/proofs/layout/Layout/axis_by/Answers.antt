use Rattle.nd_layout.proofs.NamesFromOtherCrates.{◌<◌, rules, subst, sym, w64, FitsSigned, to_z-of_z, slice_get, IsTrue, fits_next}
use Rattle.nd_layout.proofs.steps.SliceLoop.{part_fits, index_fits}
use Rattle.nd_layout.proofs.layout.Layout.axis_by.Goals as goal

pub part_of_axis-requires-clause-on : goal.part_of_axis-requires-clause-on
part_of_axis-requires-clause-on g c =
    let lengths = g.D.Dimension.lengths c.args.self.now.dim in
    (part_fits lengths c.args.axis _ _ _ (subst (λ e. IsTrue (fits_next (slice_get lengths c.args.axis) e)) c.in-Slice.is c.requires.fits)).0

pub part_of_axis-requires-clause-fits : goal.part_of_axis-requires-clause-fits
part_of_axis-requires-clause-fits g c =
    let lengths = g.D.Dimension.lengths c.args.self.now.dim in
    let start_fits : FitsSigned w64 c.in-Slice.start = search rules in
    let step_fits : FitsSigned w64 c.in-Slice.step = search rules in
    rw (to_z-of_z w64 c.in-Slice.start start_fits, to_z-of_z w64 c.in-Slice.step step_fits)
    (part_fits lengths c.args.axis _ _ _ (subst (λ e. IsTrue (fits_next (slice_get lengths c.args.axis) e)) c.in-Slice.is c.requires.fits)).1

pub offset_at-requires-clause-on : goal.offset_at-requires-clause-on
offset_at-requires-clause-on g c =
    let lengths = g.D.Dimension.lengths c.args.self.now.dim in
    (index_fits lengths c.args.axis _ (subst (λ e. IsTrue (fits_next (slice_get lengths c.args.axis) e)) c.in-Index.is c.requires.fits)).0

pub offset_at-requires-clause-fits : goal.offset_at-requires-clause-fits
offset_at-requires-clause-fits g c =
    let lengths = g.D.Dimension.lengths c.args.self.now.dim in
    let fits : FitsSigned w64 c.in-Index.coordinate = search rules in
    rw (to_z-of_z w64 c.in-Index.coordinate fits) (index_fits lengths c.args.axis _ (subst (λ e. IsTrue (fits_next (slice_get lengths c.args.axis) e)) c.in-Index.is c.requires.fits)).1

pub stride-requires : goal.stride-requires
stride-requires g c =
    let lengths = g.D.Dimension.lengths c.args.self.now.dim in
    subst (λ n. c.args.axis < n) (sym c.args.self.now.as_many)
    (index_fits lengths c.args.axis _ (subst (λ e. IsTrue (fits_next (slice_get lengths c.args.axis) e)) c.in-Index.is c.requires.fits)).0
