use Rattle.std.proofs.Common.{◌∙◌, ap, subst}
use Rattle.nd_text.specs.BufferedPrinting.{Puts}
use Rattle.nd_text.specs.LinesAndWords.{words_of}
use Rattle.nd_text.proofs.PrintingInTurn.{puts_then}
use Rattle.nd_picture_text.specs.QuotedSteps.{number_count}
use Rattle.nd_picture_text.proofs.StepQuotes.{first_more}
use Rattle.nd_picture_text.proofs.quoted_steps.put_first_step.Goals as goal

pub returns-in-Some : goal.returns-in-Some
returns-in-Some g c =
    let same = first_more (words_of c.args.line.now) c.in-Some.word.now (words_of c.in-Some.rest.now) c.number_count.result c.in-Some.ensures.words (c.number_count.ensures ∙ ap number_count c.name_of.ensures) in
    subst (Puts g.W.Write.contents c.args.output.now c.args.page.now c.put_spaced.new.output c.put_spaced.new.page) same (puts_then c.put.ensures c.put_spaced.ensures)
