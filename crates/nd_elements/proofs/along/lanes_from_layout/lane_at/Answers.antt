use Rattle.nd_elements.proofs.NamesFromOtherCrates.{◌≡◌, ◌∙◌, ◌<◌, ◌*ℤ◌, ◌+ℤ◌, refl, subst, ap, pos, get_or, rules, arith, w64, FitsSigned, to_z-of_z, is_place, placement_of, length-le-product}
use Rattle.nd_elements.proofs.along_lemmas.PlacesOfLanesByIndex.{lie_along}
use Rattle.nd_elements.proofs.along_lemmas.LaneThrough.{through_inside, through_placed}
use Rattle.nd_elements.proofs.along.lanes_from_layout.lane_at.Goals as goal

pub lane_from-requires : goal.lane_from-requires
lane_from-requires g c =
    let layout = c.args.layout.now in
    let firsts = c.first_places-firsts.result in
    let stride = c.stride_at-stride.result in
    let fits : FitsSigned w64 stride = search rules in
    let strides : stride ≡ get_or (g.T.StrideList.strides_of layout.strides) c.args.axis.0 (pos 0) = c.stride_at-stride.ensures ∙ (rw c.slice.ensures refl) in
    let by = lie_along layout.offset (g.D.Dimension.lengths layout.dim) (g.T.StrideList.strides_of layout.strides) c.args.axis.0 c.requires.axis layout.as_many firsts.offset (g.D.Smaller.Dimension.lengths firsts.dim) (g.D.Smaller.Strides.StrideList.strides_of firsts.strides)
    stride c.length-count.result strides c.length-count.ensures c.first_places-firsts.ensures.lengths c.first_places-firsts.ensures.step in
    record {
      few = omega (arith, length-le-product (g.D.Dimension.lengths layout.dim) c.args.axis.0 c.requires.axis, layout.checked, c.length-count.ensures);
      reach = rw (to_z-of_z w64 stride fits) (λ k within. ap is_place (through_placed c.args.axis.0 (placement_of layout) (placement_of firsts) c.length-count.result stride by c.first_places-firsts.ensures.lengths c.args.index.now c.requires.within c.place_in_box-place.result c.place_in_box-place.ensures k within) ∙ layout.reach _ (through_inside c.args.axis.0 (placement_of layout) (placement_of firsts) c.length-count.result stride by c.first_places-firsts.ensures.lengths c.args.index.now c.requires.within k within));
    }

pub returns : goal.returns
returns g c =
    let layout = c.args.layout.now in
    let firsts = c.first_places-firsts.result in
    let stride = c.stride_at-stride.result in
    let fits : FitsSigned w64 stride = search rules in
    let strides : stride ≡ get_or (g.T.StrideList.strides_of layout.strides) c.args.axis.0 (pos 0) = c.stride_at-stride.ensures ∙ (rw c.slice.ensures refl) in
    let lies = rw (to_z-of_z w64 stride fits) at c.lane_from.ensures.lane in
    let by = lie_along layout.offset (g.D.Dimension.lengths layout.dim) (g.T.StrideList.strides_of layout.strides) c.args.axis.0 c.requires.axis layout.as_many firsts.offset (g.D.Smaller.Dimension.lengths firsts.dim) (g.D.Smaller.Strides.StrideList.strides_of firsts.strides)
    stride c.length-count.result strides c.length-count.ensures c.first_places-firsts.ensures.lengths c.first_places-firsts.ensures.step in
    record {
      lane = (
        lies.1 ∙ c.length-count.ensures,
        λ k below.
            let within = subst (λ n. k < n) lies.1 below in (
              through_inside c.args.axis.0 (placement_of layout) (placement_of firsts) c.length-count.result stride by c.first_places-firsts.ensures.lengths c.args.index.now c.requires.within k within,
              (λ i. pos (lies.0 i) +ℤ (pos k *ℤ lies.2 i)) ∙ through_placed c.args.axis.0 (placement_of layout) (placement_of firsts) c.length-count.result stride by c.first_places-firsts.ensures.lengths c.args.index.now c.requires.within c.place_in_box-place.result c.place_in_box-place.ensures k within,
            ),
      );
    }
