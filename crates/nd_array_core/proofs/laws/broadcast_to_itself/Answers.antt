use Rattle.nd_array_core.proofs.NamesFromOtherCrates.{refl}
use Rattle.nd_array_core.specs.ArrayMeaning.{meaning_of}
use Rattle.nd_array_core.proofs.law_lemmas.BroadcastToOwnShape.{broadcasts_itself, itself_at}
use Rattle.nd_array_core.proofs.laws.broadcast_to_itself.Goals as goal

pub returns-clause-some : goal.returns-clause-some
unfolding meaning_of
returns-clause-some g c to same = let array = c.args.array.now in broadcasts_itself (g.D.Dimension.lengths array.layout.dim) to array.layout.checked same

pub returns-clause-elements : goal.returns-clause-elements
unfolding meaning_of
returns-clause-elements g c to same i = let array = c.args.array.now in itself_at (meaning_of array) to (λ j out. rw out refl) same i
