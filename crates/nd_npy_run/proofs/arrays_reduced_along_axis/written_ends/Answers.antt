use Rattle.std.proofs.Common.{rules}
use Rattle.std.specs.List.{reduce}
use Rattle.nd_array_core.specs.ArrayMeaning.{meaning_of}
use Rattle.nd_npy_run.specs.Reductions.{end_written, kept_by}
use Rattle.nd_npy_run.proofs.FilesOfLaneReductions.{ends_are}
use Rattle.nd_npy_run.proofs.arrays_reduced_along_axis.written_ends.Goals as goal

pub returns : goal.returns
returns g c =
    let written = end_written g.A.Converts.converted g.A.Zero.zero in
    ends_are c.args.axis.0 (meaning_of c.args.numbers.now) (meaning_of c.in_ok-written.written) written (λ xs. reduce (kept_by c.args.greatest g.A.Ordered.order) xs) (meaning_of c.in_ok-ends.ends)
    c.in_ok-ends.ensures.shape c.in_ok-ends.ensures.ends c.in_ok-written.ensures.shape (c.in_ok-written.ensures.alike written (λ x y f call. (search rules, search rules)))
