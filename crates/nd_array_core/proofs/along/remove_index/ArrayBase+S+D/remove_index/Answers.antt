use Rattle.nd_array_core.proofs.NamesFromOtherCrates.{◌∙◌, ap, rules, slice_index, in_box, inside, removed_shape}
use Rattle.nd_array_core.specs.ArrayMeaning.{shape_of, element_at, storage_of, place_at}
use Rattle.nd_array_core.proofs.along_lemmas.CoordinateRemovedFromAxis.{front_by, sliced_through, front_shown, removed_shown, removed_stored}
use Rattle.nd_array_core.proofs.along.remove_index.ArrayBase+S+D.remove_index.Goals as goal

pub returns : goal.returns
returns g c =
    let ns = shape_of c.args.self.now in
    let a = c.args.axis.0 in
    let turned = c.rotate_axis.new.self in
    let new = c.slice_axis_inplace.new.self in
    let slice = front_by (slice_index ns a) c.len_of-last.result c.between.result c.between.ensures c.len_of-last.ensures.value in
    record {
      shape = search rules;
      strides = search rules;
      elements = removed_shown ns a c.requires.axis c.args.index c.requires.within (element_at c.args.self.now) (element_at turned) c.rotate_axis.ensures.elements (element_at new)
          (sliced_through ns a (shape_of turned) c.between.result (element_at turned) (element_at new) c.rotate_axis.ensures.frame.0 slice c.slice_axis_inplace.ensures.part.0.2);
      places = λ i. front_shown ns a (place_at turned) (place_at new)
          (sliced_through ns a (shape_of turned) c.between.result (place_at turned) (place_at new) c.rotate_axis.ensures.frame.0 slice c.slice_axis_inplace.ensures.part.0.3) i
          ∙ ap (inside (removed_shape ns a) i) (c.rotate_axis.ensures.frame.2 i);
      removed = λ i p last at_p. ap (λ s. g.S.Data.stored s p) c.slice_axis_inplace.ensures.part.1
          ∙ removed_stored ns c.args.axis.0 c.requires.axis c.args.index c.requires.within (element_at c.args.self.now) (element_at turned) c.rotate_axis.ensures.elements
          (place_at c.args.self.now) (place_at turned) (g.S.Data.stored (storage_of turned)) c.rotate_axis.ensures.frame.2
          (λ j. c.elements_have_places.ensures.places j ∙ ap (λ s. in_box s j) c.rotate_axis.ensures.frame.0) c.elements_have_places.ensures.elements i p last at_p;
      others = search rules;
      frame = search rules;
      offset = search rules;
    }
