use Rattle.nd_array_core.proofs.NamesFromOtherCrates.{[], ◌∷◌, sym, subst, rules, w64, to_z, of_z, FitsSigned, to_z-of_z, IsValid}
use Rattle.nd_array_core.proofs.along_lemmas.LanesAsViews.{lane_is_valid}
use Rattle.nd_array_core.proofs.along.lane_view.layout_of.Goals as goal

pub strided-requires : goal.strided-requires
strided-requires c =
    let lane = c.args.lane in
    let fits : FitsSigned w64 lane.stride = search rules in
    record {
      valid = subst (λ ls. IsValid lane.place ls (to_z w64 (of_z w64 lane.stride) ∷ [])) (sym c.into_dimension.ensures)
          (subst (λ s. IsValid lane.place (lane.count ∷ []) (s ∷ [])) (sym (to_z-of_z w64 lane.stride fits)) (lane_is_valid lane.place lane.count lane.stride lane.few lane.reach));
    }
