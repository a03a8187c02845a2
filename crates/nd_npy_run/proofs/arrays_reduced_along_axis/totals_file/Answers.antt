use Rattle.nd_array_core.specs.ArrayMeaning.{meaning_of}
use Rattle.nd_npy_run.specs.OutputAndStatus.{bytes_made}
use Rattle.nd_npy_run.specs.Reductions.{total_by, read_as}
use Rattle.nd_npy_run.proofs.FilesOfLaneReductions.{lanes_file_comes}
use Rattle.nd_npy_run.proofs.arrays_reduced_along_axis.totals_file.Goals as goal

pub returns-in-Ok-lane_totals : goal.returns-in-Ok-lane_totals
returns-in-Ok-lane_totals g c =
    let number = g.A.Arithmetic in
    lanes_file_comes c.args.axis.0 (meaning_of c.in-Ok.numbers) (meaning_of c.in-Ok-lane_totals.totals) g.A.NpyItem g.A.NpyNumber.kind (total_by c.args.mean number.plus number.over g.A.Zero.zero number.of_count)
    (read_as g.I.NpyItem g.I.Converts.converted c.args.order) (meaning_of c.args.array.now) (bytes_made c.written_file.result) c.in-Ok.ensures.numbers c.in-Ok-lane_totals.ensures c.written_file.ensures
