use Rattle.std.proofs.Common.{subst}
use Rattle.nd_array_core.specs.ArrayMeaning.{shape_of}
use Rattle.nd_text.specs.BufferedPrinting.{Puts}
use Rattle.nd_text.specs.NumberTexts.{list_text}
use Rattle.nd_text.proofs.PrintingInTurn.{puts_then}
use Rattle.nd_run.proofs.output_and_exit_status.put_whole.Goals as goal

pub returns : goal.returns
returns g c =
    let contents = g.W.Write.contents in
    let lengths : Puts contents c.put.new.out c.put.new.page c.put_list.new.out c.put_list.new.page (list_text (shape_of c.args.array.now)) = subst (λ ns. Puts contents c.put.new.out c.put.new.page c.put_list.new.out c.put_list.new.page (list_text ns)) c.shape.ensures.value c.put_list.ensures in
    puts_then c.put_replies.ensures (puts_then c.put.ensures (puts_then (puts_then lengths c.put_values.ensures) c.put-2.ensures))
