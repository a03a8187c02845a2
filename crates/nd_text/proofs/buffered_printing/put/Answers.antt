use Rattle.std.proofs.Common.{ap, ◌∙◌, ◌++◌}
use Rattle.nd_text.proofs.PrintingInTurn.{puts_next, puts_long}
use Rattle.nd_text.proofs.buffered_printing.put.Goals as goal

pub returns-then-add-2 : goal.returns-then-add-2
returns-then-add-2 g c = puts_next _ _ _ _ (c.as_slice.ensures ∙ c.if-add.ensures.bytes) c.write_text.ensures (c.if-add-2.ensures.bytes ∙ ap (λ l. l ++ c.args.text.now) c.clear.ensures)

pub returns : goal.returns
returns g c = puts_long _ _ _ _ (c.as_slice.ensures ∙ c.if-add.ensures.bytes) c.write_text.ensures (c.if-add-2.ensures.bytes ∙ c.clear.ensures) c.write_text-2.ensures
