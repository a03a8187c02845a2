use Rattle.nd_array_core.proofs.NamesFromOtherCrates.{◌≡◌, ℕ, Bool, true, List, refl, ap, sym, ◌∙◌, fun_ext, Some, place_of, names, region_stored, place_number, inside}
use Rattle.std.specs.Option.{is_some}
use Rattle.nd_region.proofs.PlacesNamedByLayouts.{named_by as index_of}
use Rattle.nd_array_core.specs.ArrayMeaning.{meaning_of, memory_layout_of}
use Rattle.nd_array_core.specs.layout.ArrayAfterMutableView.{lent_to, array_with_part}
use Rattle.nd_array_core.specs.layout.SeveralMutableViews.{named_of}
use Rattle.nd_array_core.proofs.layout_lemmas.TakenAndLeftStorage.{Taken, taken_holds, taken_element, taken_places}
use Rattle.nd_array_core.proofs.lending.RefilledPart.{is_refilled, others_stay}
use Rattle.nd_array_core.proofs.layout.views.ArrayBase+S+D.lent_as.Goals as goal

pub invariant_of-result : goal.invariant_of-result
unfolding named_of
invariant_of-result g c =
    let layout = c.args.layout in let old = g.S.Data.stored c.args.self.now.storage in let new = region_stored c.lent_named.result.region in
    let ns = g.E.Dimension.lengths layout.dim in let ss = g.E.Strides.StrideList.strides_of layout.strides in
    let taken : Taken old new layout.offset ns ss = c.lent_named.ensures.elements in
    record { inside = taken_holds old new layout.offset ns ss taken c.requires.holds; separated = λ _. c.requires.separated }

pub returns : goal.returns
unfolding meaning_of memory_layout_of lent_to named_of
returns g c =
    let layout = c.args.layout in let array = c.args.self.now in let old = g.S.Data.stored array.storage in let new = region_stored c.lent_named.result.region in
    let refill = g.S.Data.refilled in let items = g.S.Data.items in
    let offset = layout.offset in let ns = g.E.Dimension.lengths layout.dim in let ss = g.E.Strides.StrideList.strides_of layout.strides in
    let taken : Taken old new offset ns ss = c.lent_named.ensures.elements in
    let lent : ℕ → Bool = λ p. is_some (new p) in
    let at_index : (p : ℕ) → lent p ≡ true → (i : List ℕ) × (inside ns i (place_number (place_of offset ss i)) ≡ Some p) =
    λ p there. let at = index_of offset ns ss p (sym (taken_places old new offset ns ss taken c.requires.holds p) ∙ there) in (at.0, rw (at.1, at.2) refl) in
    let same_places : names offset ns ss ≡ lent = sym (fun_ext (taken_places old new offset ns ss taken c.requires.holds)) in (
      (refl, λ w. ap (λ test. array_with_part refill items array test (items w.storage)) same_places),
      record {
        writes_back = tt;
        seen = record { shape_is = refl; strides_are = refl; elements = taken_element old new offset ns ss taken; places = λ i. refl };
        offset = refl;
        refilled = λ ws. is_refilled refill items array lent g.S.DataMut.frame ws g.met.S.DataMut.refilled_there g.met.S.DataMut.refilled_frame;
        others = others_stay refill items array lent g.met.S.DataMut.refilled_elsewhere (λ i. inside ns i (place_number (place_of offset ss i))) at_index;
      },
    )
