use Rattle.std.proofs.lemmas.Result.{err_from_is_err_and}
use Rattle.nd_array_core.specs.ArrayMeaning.{meaning_of}
use Rattle.nd_read.proofs.MemoryLackedInParts.{array_lacks}
use Rattle.nd_read.proofs.reader.words_of_line.Line.boxed.Goals as goal

pub returns-in_err-new : goal.returns-in_err-new
returns-in_err-new c =
    let p = err_from_is_err_and c.from_residual-in_err-new.result c.from_residual-in_err-new.ensures.1 in
    rw (p.1, p.2) (array_lacks c.args.self.now (meaning_of c.in_ok-array.field-0) c.array.new.self c.in_ok-array.ensures)
