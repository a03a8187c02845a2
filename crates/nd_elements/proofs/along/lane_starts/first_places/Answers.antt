use Rattle.nd_elements.proofs.NamesFromOtherCrates.{◌≡◌, ◌<◌, ◌*◌, ◌∙◌, ◌^◌, max, ap, sym, subst, arith, get_or, remove, nonzero_product, nonzero_product-removed}
use Rattle.nd_elements.proofs.along.lane_starts.first_places.Goals as goal

pub in_order-requires : goal.in_order-requires
in_order-requires g c =
    let ns = g.D.Dimension.lengths c.args.layout.now.dim in
    let a = c.args.axis.0 in
    let none : get_or ns a 0 ≡ 0 = omega (arith, c.if-length-gt0.false, c.length.ensures) in
    let one : max 1 0 * nonzero_product (remove ns a) ≡ nonzero_product (remove ns a) = omega arith in
    let same : nonzero_product ns ≡ nonzero_product (remove ns a) = nonzero_product-removed ns a c.requires.axis ∙ (ap (λ n. max 1 n * nonzero_product (remove ns a)) none ∙ one) in
    subst (λ ms. nonzero_product ms < 2 ^ 63) (sym c.remove_axis.ensures) (subst (λ n. n < 2 ^ 63) same c.args.layout.now.checked)
