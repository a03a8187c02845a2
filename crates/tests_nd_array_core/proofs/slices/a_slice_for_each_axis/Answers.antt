use Rattle.std.proofs.Common.{rules, ◌≡◌, ◌∙◌, ap, arith, pos, negsuc}
use Rattle.std.specs.Prelude.{None}
use Rattle.nd_shape_and_slice.specs.Slice.{fits_axis}
use Rattle.nd_layout.proofs.steps.SliceEachAxisLoop.{answers_always_fit, whole_fits}
use Rattle.tests_nd_array_core.proofs.slices.a_slice_for_each_axis.Goals as goal

pub slice_each_axis-turned-requires : goal.slice_each_axis-turned-requires
slice_each_axis-turned-requires c =
    answers_always_fit _ _ (λ f d. tt)
    (λ f d s h st.
    let backwards : s ≡ record { start = pos 0; end = None; step = negsuc 0 } = search rules in
    ap (fits_axis d.len) backwards ∙ whole_fits d.len (negsuc 0) (omega arith))
    _ _
