use Rattle.std.proofs.Common.{rules}
use Rattle.nd_array_core.specs.ArrayMeaning.{meaning_of}
use Rattle.nd_steps.proofs.StepEquations.{same_meaning}
use Rattle.nd_npy_run.specs.Reductions.{read_as, values_of}
use Rattle.nd_npy_run.proofs.item_numbers.numbers_of.Goals as goal

pub returns-clause-numbers : goal.returns-clause-numbers
returns-clause-numbers g c =
    let value = read_as g.I.NpyItem g.I.Converts.converted c.args.order in
    same_meaning (values_of value (meaning_of c.args.array.now)) (meaning_of c.in_ok-numbers.numbers) c.in_ok-numbers.ensures.shape (c.in_ok-numbers.ensures.alike value (λ x y f call. (search rules, search rules)))
