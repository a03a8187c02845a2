use Rattle.nd_npy.proofs.WrittenElementBytes.{all_in_turn}
use Rattle.nd_npy.proofs.writer.append_elements.Goals as goal

pub returns-in-None : goal.returns-in-None
returns-in-None g c = all_in_turn g.A.NpyItem c.args.order _ _ c.iter.result _ c.iter.ensures.rest _ (c.append_given.ensures (λ left. left) (λ now given later step. step))
