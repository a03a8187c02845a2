use Rattle.std.specs.Prelude.{slice_index}
use Rattle.nd_array_core.specs.ArrayMeaning.{meaning_of}
use Rattle.nd_npy_run.specs.Reductions.{lane_sum, mean_by}
use Rattle.nd_npy_run.proofs.FilesOfLaneReductions.{both_ok, lanes_are}
use Rattle.nd_npy_run.proofs.arrays_reduced_along_axis.lane_totals.Goals as goal

pub returns-in-Some : goal.returns-in-Some
returns-in-Some g c =
    let number = g.A.Arithmetic in
    let v = meaning_of c.args.numbers.now in
    let made = mean_by number.plus number.over g.A.Zero.zero number.of_count (slice_index v.shape c.args.axis.0) in
    rw c.if-mean.true (both_ok _ _ _ c.in-Some.means (λ a. lanes_are c.args.axis.0 v (meaning_of a) made) c.in-Some.ensures.shape c.in-Some.ensures.means)

pub returns-else-mean : goal.returns-else-mean
returns-else-mean g c =
    let made = lane_sum g.A.Arithmetic.plus g.A.Zero.zero in
    rw c.if-mean.false (both_ok _ _ _ c.sum_axis.result (λ a. lanes_are c.args.axis.0 (meaning_of c.args.numbers.now) (meaning_of a) made) c.sum_axis.ensures.shape c.sum_axis.ensures.sums)
