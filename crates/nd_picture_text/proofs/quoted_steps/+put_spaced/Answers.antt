use Rattle.std.proofs.Common.{◌<◌, subst, arith}
use Rattle.nd_text.specs.BufferedPrinting.{Puts}
use Rattle.nd_text.specs.LinesAndWords.{words_of}
use Rattle.nd_text.proofs.PrintingInTurn.{puts_nothing, puts_then}
use Rattle.nd_picture_text.proofs.StepQuotes.{spaced_more, spaced_none}
use Rattle.nd_picture_text.proofs.quoted_steps.+put_spaced.Goals as goal

pub returns-in-Some : goal.returns-in-Some
returns-in-Some g t c =
    let some : 0 < c.args.count = omega (arith, c.if-count-eq0.false) in
    let put = puts_then c.put.ensures (puts_then c.put-in-Some.ensures c.put_spaced.ensures) in
    subst (Puts g.W.Write.contents c.args.output.now c.args.page.now c.put_spaced.new.output c.put_spaced.new.page) (spaced_more c.args.count (words_of c.args.line.now) c.in-Some.word.now (words_of c.in-Some.rest.now) some c.in-Some.ensures.words) put

pub returns-in_default : goal.returns-in_default
returns-in_default g t c =
    subst (Puts g.W.Write.contents c.args.output.now c.args.page.now c.args.output.now c.args.page.now) (spaced_none c.args.count (words_of c.args.line.now) c.in_default.ensures.words) (puts_nothing c.args.output.now c.args.page.now)
