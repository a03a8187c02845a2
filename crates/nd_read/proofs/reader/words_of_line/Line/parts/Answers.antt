use Rattle.std.proofs.Common.{sym, ap, ◌∙◌}
use Rattle.std.proofs.lemmas.Result.{err_from_is_err_and}
use Rattle.nd_read.specs.LineReaders.{checked_size}
use Rattle.nd_read.proofs.MemoryLackedInParts.{parts_lack}
use Rattle.nd_read.proofs.reader.words_of_line.Line.parts.Goals as goal

pub returns-in_err-elements : goal.returns-in_err-elements
returns-in_err-elements c =
    let p = err_from_is_err_and c.from_residual-in_err-elements.result c.from_residual-in_err-elements.ensures.1 in
    let size = ap checked_size (sym c.deref.ensures.value) ∙ c.in_ok-size.ensures in
    rw (p.1, p.2) (parts_lack c.in_err-elements.field-0.0 c.args.self.now c.in_ok-lengths.lengths.items c.lengths.new.self c.in_ok-size.size c.in_ok-lengths.ensures size c.in_err-elements.ensures.read)
