use Rattle.nd_layout.proofs.NamesFromOtherCrates.{◌≡◌, ◌<◌, ◌∙◌, ap, rules, subst, sym, get_or, w64, FitsSigned, to_z-of_z, unwrap_or, slice_get, IsTrue, coordinate_on, fits_next}
use Rattle.nd_layout.proofs.steps.SliceLoop.{coordinate_within, part_fits, index_fits}
use Rattle.nd_layout.proofs.layout.Layout.slice_element.Goals as goal

pub slice_axis-requires-clause-on : goal.slice_axis-requires-clause-on
slice_axis-requires-clause-on g c =
    let lengths = g.D.Dimension.lengths c.args.self.now.dim in
    (part_fits lengths c.args.axis _ _ _ (subst (λ e. IsTrue (fits_next (slice_get lengths c.args.axis) e)) c.in-Slice.is c.requires)).0

pub slice_axis-requires-clause-fits : goal.slice_axis-requires-clause-fits
slice_axis-requires-clause-fits g c =
    let lengths = g.D.Dimension.lengths c.args.self.now.dim in
    let start_fits : FitsSigned w64 c.in-Slice.start = search rules in
    let step_fits : FitsSigned w64 c.in-Slice.step = search rules in
    rw (to_z-of_z w64 c.in-Slice.start start_fits, to_z-of_z w64 c.in-Slice.step step_fits)
    (part_fits lengths c.args.axis _ _ _ (subst (λ e. IsTrue (fits_next (slice_get lengths c.args.axis) e)) c.in-Slice.is c.requires)).1

pub length-requires : goal.length-requires
length-requires g c =
    let lengths = g.D.Dimension.lengths c.args.self.now.dim in
    (index_fits lengths c.args.axis _ (subst (λ e. IsTrue (fits_next (slice_get lengths c.args.axis) e)) c.in-Index.is c.requires)).0

pub collapse_axis-requires-clause-on : goal.collapse_axis-requires-clause-on
collapse_axis-requires-clause-on g c =
    let lengths = g.D.Dimension.lengths c.args.self.now.dim in
    (index_fits lengths c.args.axis _ (subst (λ e. IsTrue (fits_next (slice_get lengths c.args.axis) e)) c.in-Index.is c.requires)).0

pub collapse_axis-requires-clause-within : goal.collapse_axis-requires-clause-within
collapse_axis-requires-clause-within g c =
    let lengths = g.D.Dimension.lengths c.args.self.now.dim in
    let n = get_or lengths c.args.axis 0 in
    let fits : FitsSigned w64 c.in-Index.coordinate = search rules in
    let index : c.unwrap_or-index.result ≡ unwrap_or (coordinate_on n c.in-Index.coordinate) 0 =
    c.unwrap_or-index.ensures ∙ ap (λ o. unwrap_or o 0) (rw (c.length.ensures, to_z-of_z w64 c.in-Index.coordinate fits) at c.coordinate_on_axis.ensures) in
    let reads = index_fits lengths c.args.axis _ (subst (λ e. IsTrue (fits_next (slice_get lengths c.args.axis) e)) c.in-Index.is c.requires) in
    subst (λ i. i < n) (sym index) (coordinate_within n c.in-Index.coordinate reads.1)
