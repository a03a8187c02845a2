use Rattle.std.proofs.Common.{◌++◌, take}
use Rattle.std.specs.Prelude.{codes}
use Rattle.std.specs.List.{flat_map}
use Rattle.nd_text.specs.BufferedPrinting.{Puts}
use Rattle.nd_text.proofs.buffered_printing.put_numbers.Given as goal

-- the numbers so far are put
abbrev pub invariant-loop-number : goal.invariant-loop-number
invariant-loop-number g l = Puts g.W.Write.contents l.fn.out l.fn.page l.out l.page (flat_map (λ n. codes " " ++ g.I.Integer.text n) (take l.number-index l.numbers))
