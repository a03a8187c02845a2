use Rattle.nd_array_core.proofs.NamesFromOtherCrates.{rules, slice_get, placement_of}
use Rattle.nd_array_core.specs.scoped.ViewTasks.{array_placed_at}
use Rattle.nd_array_core.specs.scoped.SlicesLentAsViews.{meant_by}
use Rattle.nd_array_core.proofs.tasks.ClosureOnView.{part_is_view, others_stay, left_is_view}
use Rattle.nd_array_core.proofs.tasks.ClosureOnSliceView.{slice_sound, seen_in_slice, unseen_kept}
use Rattle.nd_array_core.proofs.scoped.with_view_from_shape.with_view_of.Goals as goal

pub with_slice_placement-requires-clause-sound : goal.with_slice_placement-requires-clause-sound
with_slice_placement-requires-clause-sound g c =
    let layout = c.in_ok-layout.layout in
    slice_sound c.args.slice.now (meant_by g.Sh.IntoStrideShape c.args.shape) (placement_of layout) c.in_ok-layout.ensures.laid
    (record { as_many = layout.as_many; spread = layout.spread; checked = layout.checked; reach = layout.reach })

pub with_slice_placement-requires-clause-callable : goal.with_slice_placement-requires-clause-callable
with_slice_placement-requires-clause-callable g c =
    λ m named. let l = placement_of c.in_ok-layout.layout in
    let xs = c.args.slice.now in
    let v = array_placed_at m l.offset l.lengths l.strides in
    c.requires.callable v (seen_in_slice xs (meant_by g.Sh.IntoStrideShape c.args.shape) l c.in_ok-layout.ensures.laid xs v (part_is_view (slice_get xs) l.offset l.lengths l.strides m named))

pub returns : goal.returns
returns g c =
    let l = placement_of c.in_ok-layout.layout in
    let xs = c.args.slice.now in
    let ys = c.with_slice_placement.new.slice in
    let done = c.with_slice_placement.ensures.done in
    record {
      refused = search rules;
      accepted = search rules;
      unchanged = search rules;
      long = search rules;
      kept = unseen_kept xs (meant_by g.Sh.IntoStrideShape c.args.shape) l c.in_ok-layout.ensures.laid (slice_get xs) (slice_get ys) (others_stay (slice_get xs) l.offset l.lengths l.strides (slice_get ys) done.1 done.4);
      done = let v = array_placed_at done.0 l.offset l.lengths l.strides in
          let w = array_placed_at done.1 l.offset l.lengths l.strides in
          let seen = seen_in_slice xs (meant_by g.Sh.IntoStrideShape c.args.shape) l c.in_ok-layout.ensures.laid in
          (v, w, seen xs v (part_is_view (slice_get xs) l.offset l.lengths l.strides done.0 done.2), seen ys w (left_is_view (slice_get xs) l.offset l.lengths l.strides (slice_get ys) done.1 done.4), done.3);
    }
