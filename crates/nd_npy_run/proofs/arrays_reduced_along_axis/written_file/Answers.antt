use Rattle.std.proofs.Common.{Ok, ap}
use Rattle.nd_array_core.specs.ArrayMeaning.{meaning_of}
use Rattle.nd_npy_run.proofs.FilesOfLaneReductions.{numbers_file_made}
use Rattle.nd_npy_run.proofs.arrays_reduced_along_axis.written_file.Goals as goal

pub returns-in-Ok : goal.returns-in-Ok
returns-in-Ok g c = ap Ok (numbers_file_made g.B.NpyItem g.B.NpyNumber.kind (meaning_of c.args.numbers.now) c.in-Ok.file.items c.in-Ok.ensures.written)
