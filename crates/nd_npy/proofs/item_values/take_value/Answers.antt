use Rattle.std.proofs.Common.{◌∙◌, ◌∷◌, [], ◌++◌, take_all, length-drop, ap, arith}
use Rattle.nd_npy.proofs.item_values.take_value.Goals as goal

pub returns-clause-rest : goal.returns-clause-rest
returns-clause-rest g c = take_all _ _ (omega (arith, length-drop c.args.size c.args.bytes.now))

pub returns-clause-values : goal.returns-clause-values
returns-clause-values g c = c.push_reserved.ensures.items ∙ ap (λ x. c.args.values.now.items ++ x ∷ []) c.from_bytes.ensures
