use Rattle.std.proofs.Common.{◌++◌, refl}
use Rattle.std.specs.Prelude.{codes}
use Rattle.nd_text.proofs.PrintingInTurn.{puts_nothing, puts_item}
use Rattle.nd_text.proofs.buffered_printing.put_numbers.Goals as goal

pub loop-number-init : goal.loop-number-init
loop-number-init g c = puts_nothing _ _

pub loop-number-preserved : goal.loop-number-preserved
loop-number-preserved g c = puts_item (λ n. codes " " ++ g.I.Integer.text n) c.args.numbers.now c.loop-number.number-index c.number-item.result c.number-item.result c.loop-number-test.true c.number-item.is refl c.loop-number.invariant c.put.ensures c.put_number.ensures
