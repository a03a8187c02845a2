use Rattle.nd_array_core.specs.ArrayMeaning.{meaning_of}
use Rattle.nd_npy_run.specs.OutputAndStatus.{bytes_made}
use Rattle.nd_npy_run.specs.Reductions.{lane_end, read_as}
use Rattle.nd_npy_run.proofs.FilesOfLaneReductions.{lanes_file_comes}
use Rattle.nd_npy_run.proofs.arrays_reduced_along_axis.ends_file.Goals as goal

pub returns-in-Ok-written_ends : goal.returns-in-Ok-written_ends
returns-in-Ok-written_ends g c =
    lanes_file_comes c.args.axis.0 (meaning_of c.in-Ok.numbers) (meaning_of c.in-Ok-written_ends.ends) g.I.NpyItem g.I.NpyNumber.kind (λ count xs. g.A.Converts.converted (lane_end c.args.greatest g.A.Ordered.order g.A.Zero.zero xs))
    (read_as g.I.NpyItem g.I.Converts.converted c.args.order) (meaning_of c.args.array.now) (bytes_made c.written_file.result) c.in-Ok.ensures.numbers c.in-Ok-written_ends.ensures c.written_file.ensures
