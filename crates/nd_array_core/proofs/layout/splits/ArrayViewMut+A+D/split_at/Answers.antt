use Rattle.nd_array_core.proofs.NamesFromOtherCrates.{refl, ap, ◌∙◌, Placement, region_stored}
use Rattle.nd_array_core.specs.ArrayMeaning.{meaning_of, memory_layout_of}
use Rattle.nd_array_core.proofs.layout_lemmas.TakenAndLeftStorage.{step_held, left_held, left_seen, seen_part, seen_apart}
use Rattle.nd_array_core.proofs.layout.splits.ArrayViewMut+A+D.split_at.Goals as goal

pub part-requires : goal.part-requires
part-requires g c = let view = c.args.self in step_held (region_stored view.storage.region) view.inside (view.separated refl) c.halves-lower.ensures.lower

pub part-requires-2 : goal.part-requires-2
part-requires-2 g c = let view = c.args.self in left_held c.halves-lower.ensures.apart c.part.ensures.taken.0 c.part.ensures.left (step_held (region_stored view.storage.region) view.inside (view.separated refl) c.halves-lower.ensures.upper)

pub returns : goal.returns
unfolding meaning_of memory_layout_of
returns g c =
    let known = c.halves-lower.ensures in
    record {
      lower = seen_part (region_stored c.args.self.storage.region) known.lower_lengths known.lower_strides (λ _. ap (λ (l : Placement). l.offset) c.part.ensures.taken.1 ∙ known.lower_offset) known.lower c.part.ensures.taken.0;
      upper = seen_part (region_stored c.args.self.storage.region) known.upper_lengths known.upper_strides (λ none. ap (λ (l : Placement). l.offset) c.part-2.ensures.taken.1 ∙ known.upper_empty none) known.upper (left_seen c.halves-lower.ensures.apart c.part.ensures.taken.0 c.part.ensures.left c.part-2.ensures.taken.0);
      apart = seen_apart c.halves-lower.ensures.apart c.part.ensures.taken.0 c.part-2.ensures.taken.0;
    }
