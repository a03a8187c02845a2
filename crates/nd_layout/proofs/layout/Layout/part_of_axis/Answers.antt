use Rattle.nd_layout.proofs.NamesFromOtherCrates.{◌<◌, arith, rules, subst, get_or, pos, w64, FitsSigned, to_z-of_z, length_within}
use Rattle.nd_layout.proofs.steps.SliceListInOnePass.{some_left, goes_on, stays_put, first_within, leads_from}
use Rattle.nd_layout.proofs.steps.SlicingOneAxis.{slice_stride_fits, sliced_length-le}
use Rattle.nd_layout.proofs.layout.Layout.part_of_axis.Goals as goal

pub moved_unless-requires : goal.moved_unless-requires
moved_unless-requires g c =
    let lengths = g.D.Dimension.lengths c.args.self.now.dim in
    let n = get_or lengths c.args.axis 0 in
    let some = some_left c.args.is_empty c.on_axis-sliced.result.len c.none_left-stays.result c.none_left-stays.ensures in
    let len = rw (c.length.ensures) at c.on_axis-sliced.ensures.len in
    let first = rw (c.length.ensures) at c.on_axis-sliced.ensures.first in
    let shorter = sliced_length-le n c.args.slice c.requires.fits in
    let limit = length_within lengths c.args.axis in
    record {
      from = λ stays.
          let left = some stays in
          leads_from c.args.offset n (get_or (g.T.StrideList.strides_of c.args.self.now.strides) c.args.axis (pos 0)) (omega (arith, left.1, len, shorter)) (c.requires.leads left.0);
      few = λ stays.
          let left = some stays in
          let below = first_within n c.args.slice c.requires.fits (omega (arith, left.1, len)) in
          omega (arith, below, limit, c.args.self.now.checked, first);
      to = λ stays.
          let left = some stays in
          let below = first_within n c.args.slice c.requires.fits (omega (arith, left.1, len)) in
          rw (to_z-of_z w64 c.stride-stride.result (record { sfits = c.stride-stride.type_inv }), c.stride-stride.ensures, first) (c.requires.leads left.0 _ below);
    }

pub stepped_by-requires : goal.stepped_by-requires
stepped_by-requires g c =
    let step_fits : FitsSigned w64 c.args.slice.step = search rules in
    rw (to_z-of_z w64 c.stride-stride.result (record { sfits = c.stride-stride.type_inv }), to_z-of_z w64 c.args.slice.step step_fits, c.stride-stride.ensures)
    (λ long. slice_stride_fits (g.D.Dimension.lengths c.args.self.now.dim) (g.T.StrideList.strides_of c.args.self.now.strides) c.args.axis c.args.slice c.args.self.now.as_many c.requires.on c.requires.fits c.args.self.now.spread (subst (λ m. 1 < m) (rw (c.length.ensures) at c.on_axis-sliced.ensures.len) long))

pub returns : goal.returns
returns g c =
    let step_fits : FitsSigned w64 c.args.slice.step = search rules in
    let first = rw (c.length.ensures) at c.on_axis-sliced.ensures.first in
    record {
      len = rw (c.length.ensures) at c.on_axis-sliced.ensures.len;
      stride = rw (to_z-of_z w64 c.stepped_by.result (record { sfits = c.stepped_by.type_inv })) (rw (to_z-of_z w64 c.stride-stride.result (record { sfits = c.stride-stride.type_inv }), to_z-of_z w64 c.args.slice.step step_fits, c.stride-stride.ensures) at c.stepped_by.ensures);
      offset = λ some left. rw (to_z-of_z w64 c.stride-stride.result (record { sfits = c.stride-stride.type_inv }), c.stride-stride.ensures, first) at (c.moved_unless.ensures.moved (goes_on c.args.is_empty c.on_axis-sliced.result.len c.none_left-stays.result c.none_left-stays.ensures some left));
      empty = λ none. c.moved_unless.ensures.kept (stays_put c.args.is_empty c.on_axis-sliced.result.len c.none_left-stays.result c.none_left-stays.ensures none);
    }
