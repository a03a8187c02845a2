use Rattle.std.proofs.Common.{◌∙◌, ap, map, Some}
use Rattle.std.proofs.lemmas.Result.{err_from_is_err_and}
use Rattle.nd_text.specs.declared.script_keywords.Keyword.{Keyword}
use Rattle.nd_read.specs.ScriptCalls.{asked_step}
use Rattle.nd_read.proofs.MemoryLackedInParts.{ask_lacks, write_lacks}
use Rattle.nd_read.proofs.reader.words_of_line.Line.call.Goals as goal

pub returns-in_err-question-in-Ask : goal.returns-in_err-question-in-Ask
returns-in_err-question-in-Ask c =
    let p = err_from_is_err_and c.from_residual-in_err-question-in-Ask.result c.from_residual-in_err-question-in-Ask.ensures.1 in
    let named = c.in_ok-keyword.ensures ∙ ap (λ (k : Keyword). Some (k, c.keyword.new.self)) c.in-Ask.is in
    rw (p.1, p.2) (ask_lacks c.in_err-question-in-Ask.field-0.0 c.args.most c.args.self.now c.keyword.new.self (map asked_step c.in_ok-path-in-Ask.field-0.items) c.path.new.self named c.in_ok-path-in-Ask.ensures c.in_err-question-in-Ask.ensures)

pub returns-in_err-act-in-Write : goal.returns-in_err-act-in-Write
returns-in_err-act-in-Write c =
    let p = err_from_is_err_and c.from_residual-in_err-act-in-Write.result c.from_residual-in_err-act-in-Write.ensures.1 in
    let named = c.in_ok-keyword.ensures ∙ ap (λ (k : Keyword). Some (k, c.keyword.new.self)) c.in-Write.is in
    rw (p.1, p.2) (write_lacks c.in_err-act-in-Write.field-0.0 c.args.most c.args.self.now c.keyword.new.self (map asked_step c.in_ok-path-in-Write.field-0.items) c.path-in-Write.new.self named c.in_ok-path-in-Write.ensures c.in_err-act-in-Write.ensures)
