use Rattle.std.proofs.Common.{◌≡◌, ◌≤◌, ◌+◌, true, length, ap, sym, subst, ◌∙◌, arith}
use Rattle.nd_shape_and_slice.proofs.ListEdits.{got_mapped}
use Rattle.nd_array_core.specs.LayoutLaws.{with_axis_inserted}
use Rattle.nd_array_core.specs.ArrayMeaning.{meaning_of}
use Rattle.nd_array_core.specs.growth.AppendEach.{meanings_of}
use Rattle.nd_stacking.proofs.EqualShapesConcatenated.{same_meaning}
use Rattle.nd_stacking.proofs.ConcatenationShapeChecks.{pushed_more}
use Rattle.nd_stacking.proofs.stacked_arrays.with_axis.Goals as goal

pub loop-nth-preserved : goal.loop-nth-preserved
loop-nth-preserved g c =
    let x = c.index-arrays-nth.result in
    let axis = c.args.axis.0 in
    let ms = meanings_of c.args.arrays.now in
    let at = got_mapped (λ a. meaning_of a) c.args.arrays.now c.loop-nth.nth x c.loop-nth-test.true c.index-arrays-nth.is in
    let seen : meaning_of c.view.result ≡ meaning_of x = same_meaning (meaning_of c.view.result) (meaning_of x) c.view.ensures.whole.0 c.view.ensures.whole.2 in
    let is : meaning_of c.insert_axis.result ≡ with_axis_inserted axis (meaning_of x) =
    same_meaning (meaning_of c.insert_axis.result) (with_axis_inserted axis (meaning_of c.view.result)) c.insert_axis.ensures.part.0.0 c.insert_axis.ensures.part.0.2 ∙ ap (with_axis_inserted axis) seen in
    let before = c.loop-nth.invariant.count in
    let room = c.loop-nth.invariant.room in
    let longer = c.push_reserved.ensures.len in
    let kept = c.push_reserved.ensures.capacity in record {
      views = ap (λ vs. meanings_of vs) c.push_reserved.ensures.items
          ∙ pushed_more (λ v. meaning_of v) (with_axis_inserted axis) c.loop-nth.views.items c.insert_axis.result ms c.loop-nth.nth (meaning_of x) at c.loop-nth.invariant.views is;
      count = omega (arith, before, longer);
      room = omega (arith, room, kept);
    }

pub insert_axis-requires : goal.insert_axis-requires
insert_axis-requires g c =
    let x = c.index-arrays-nth.result in
    let at = got_mapped (λ a. meaning_of a) c.args.arrays.now c.loop-nth.nth x c.loop-nth-test.true c.index-arrays-nth.is in
    record {
      place = subst (λ s. c.args.axis.0 ≤ length s) (sym c.view.ensures.whole.0) (c.requires.place c.loop-nth.nth (meaning_of x) at);
      axes_fit = subst (λ s. g.D.Larger.Dimension.has_axes (length s + 1) ≡ true) (sym c.view.ensures.whole.0) (c.requires.axes_fit c.loop-nth.nth (meaning_of x) at);
    }
