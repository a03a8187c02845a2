use Rattle.std.proofs.Common.{◌∙◌, ◌++◌, ap}
use Rattle.nd_npy.specs.ItemBytes.{values_in}
use Rattle.nd_npy.proofs.item_values.values_of.Goals as goal

pub returns-in-Ok-clause-values : goal.returns-in-Ok-clause-values
returns-in-Ok-clause-values g c = c.push_values.ensures.values ∙ ap (λ l. l ++ values_in (g.A.NpyItem.value_of c.args.order) c.args.size c.args.count c.args.bytes.now) c.in-Ok.ensures.items
