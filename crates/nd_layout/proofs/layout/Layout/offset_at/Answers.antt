use Rattle.nd_layout.proofs.NamesFromOtherCrates.{◌≡◌, ◌∙◌, ap, arith, get_or, pos, w64, to_z-of_z, unwrap_or, coordinate_on, length_within}
use Rattle.nd_layout.proofs.steps.SliceLoop.{coordinate_within}
use Rattle.nd_layout.proofs.steps.SliceListInOnePass.{leads_from}
use Rattle.nd_layout.proofs.layout.Layout.offset_at.Goals as goal

pub moved_unless-requires-clause-from : goal.moved_unless-requires-clause-from
moved_unless-requires-clause-from g c some =
    let n = get_or (g.D.Dimension.lengths c.args.self.now.dim) c.args.axis 0 in
    let below = coordinate_within n c.args.coordinate c.requires.fits in
    leads_from c.args.offset n (get_or (g.T.StrideList.strides_of c.args.self.now.strides) c.args.axis (pos 0)) (omega (arith, below)) (c.requires.leads some)

pub moved_unless-requires-clause-few : goal.moved_unless-requires-clause-few
moved_unless-requires-clause-few g c some =
    let lengths = g.D.Dimension.lengths c.args.self.now.dim in let n = get_or lengths c.args.axis 0 in
    let index : c.unwrap_or-index.result ≡ unwrap_or (coordinate_on n c.args.coordinate) 0 =
    c.unwrap_or-index.ensures ∙ ap (λ o. unwrap_or o 0) (rw (c.length.ensures, to_z-of_z w64 c.args.coordinate c.ranges.coordinate) at c.coordinate_on_axis.ensures) in
    let below = coordinate_within n c.args.coordinate c.requires.fits in let limit = length_within lengths c.args.axis in
    omega (arith, index, below, limit, c.args.self.now.checked)
