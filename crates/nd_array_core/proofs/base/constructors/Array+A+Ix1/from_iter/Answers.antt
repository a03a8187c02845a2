use Rattle.nd_array_core.proofs.NamesFromOtherCrates.{◌∙◌, [], ◌∷◌, ap, length, subst, sym, RowMajor}
use Rattle.nd_array_core.specs.base.NewArrays.{OwnsInOrder}
use Rattle.nd_array_core.proofs.base.constructors.Array+A+Ix1.from_iter.Goals as goal

pub returns-in-Ok-clause-owns : goal.returns-in-Ok-clause-owns
returns-in-Ok-clause-owns g c = subst (λ n. OwnsInOrder (n ∷ [], RowMajor) c.from_vec.result) (c.in-Ok.items.ok.0 ∙ sym (ap length c.from_vec.ensures.stored)) c.from_vec.ensures.owns
