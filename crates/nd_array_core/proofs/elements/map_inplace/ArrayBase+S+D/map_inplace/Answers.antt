use Rattle.nd_array_core.proofs.NamesFromOtherCrates.{refl, sym, subst, by_rank, place_of, inside, stored_at, PlacesDiffer, ChangesEach, MayChangeEach, one_index, ranks_distinct, places_changeable, changes_all, changed_holds, changes_settled}
use Rattle.nd_array_core.specs.ArrayMeaning.{meaning_of}
use Rattle.nd_array_core.proofs.elements.map_inplace.ArrayBase+S+D.map_inplace.Goals as goal

pub change_places-requires-clause-apart : goal.change_places-requires-clause-apart
change_places-requires-clause-apart g c =
    let array = c.args.self.now in
    let old = array.layout in
    let order = c.loop_order-order.result in
    let ns = g.D.Dimension.lengths old.dim in
    let ss = g.D.Strides.StrideList.strides_of old.strides in
    subst (λ p. PlacesDiffer (by_rank p)) (sym c.places.ensures) (ranks_distinct g.F.FnMut old.offset ns ss order.offset (g.D.Dimension.lengths order.dim) (g.D.Strides.StrideList.strides_of order.strides) c.loop_order-order.ensures
    (λ i j h q same. one_index ns ss old.offset i j old.as_many (array.separated g.met.S.DataMut.alone) h q same))

pub change_places-requires-clause-callable : goal.change_places-requires-clause-callable
unfolding meaning_of
change_places-requires-clause-callable g c =
    let array = c.args.self.now in
    let old = array.layout in
    let order = c.loop_order-order.result in
    subst (λ p. MayChangeEach g.F.FnMut g.S.Data.stored (by_rank p) array.storage c.args.f) (sym c.places.ensures) (places_changeable g.F.FnMut old.offset (g.D.Dimension.lengths old.dim) (g.D.Strides.StrideList.strides_of old.strides) order.offset (g.D.Dimension.lengths order.dim) (g.D.Strides.StrideList.strides_of order.strides) c.loop_order-order.ensures
    (g.S.Data.stored array.storage) c.args.f c.requires.callable)

pub invariant_of-self : goal.invariant_of-self
invariant_of-self g c =
    let array = c.args.self.now in
    let old = array.layout in
    let order = c.loop_order-order.result in
    let changed = subst (λ p. ChangesEach g.F.FnMut g.S.Data.stored (by_rank p) array.storage c.change_places.new.storage c.args.f c.change_places.result) c.places.ensures c.change_places.ensures.changed in
    record {
      inside = changed_holds g.F.FnMut old.offset (g.D.Dimension.lengths old.dim) (g.D.Strides.StrideList.strides_of old.strides) order.offset (g.D.Dimension.lengths order.dim) (g.D.Strides.StrideList.strides_of order.strides) c.loop_order-order.ensures
          (g.S.Data.stored array.storage) (g.S.Data.stored c.change_places.new.storage) c.args.f c.change_places.result changed;
      separated = array.separated;
    }

pub returns-clause-visits : goal.returns-clause-visits
unfolding meaning_of
returns-clause-visits g c =
    let array = c.args.self.now in
    let old = array.layout in
    let order = c.loop_order-order.result in
    let changed = subst (λ p. ChangesEach g.F.FnMut g.S.Data.stored (by_rank p) array.storage c.change_places.new.storage c.args.f c.change_places.result) c.places.ensures c.change_places.ensures.changed in
    changes_all g.F.FnMut old.offset (g.D.Dimension.lengths old.dim) (g.D.Strides.StrideList.strides_of old.strides) order.offset (g.D.Dimension.lengths order.dim) (g.D.Strides.StrideList.strides_of order.strides) c.loop_order-order.ensures
    (g.S.Data.stored array.storage) (g.S.Data.stored c.change_places.new.storage) c.args.f c.change_places.result changed

pub returns-clause-alike : goal.returns-clause-alike
unfolding meaning_of
returns-clause-alike g c h by =
    let array = c.args.self.now in
    let ns = g.D.Dimension.lengths array.layout.dim in
    changes_settled g.F.FnMut ns (λ i. inside ns i (stored_at (g.S.Data.stored array.storage) (place_of array.layout.offset (g.D.Strides.StrideList.strides_of array.layout.strides) i)))
    (λ i. inside ns i (stored_at (g.S.Data.stored c.change_places.new.storage) (place_of array.layout.offset (g.D.Strides.StrideList.strides_of array.layout.strides) i)))
    c.args.f (λ i out. rw out refl) (λ i out. rw out refl) (returns-clause-visits g c) h by
