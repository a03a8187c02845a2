use Rattle.nd_array_core.proofs.NamesFromOtherCrates.{ap, get_or, refl, subst, sym, placement_of, MayLackForClone, inside, place_number, place_of, slice_get, on_err_weaker}
use Rattle.nd_array_core.specs.ArrayMeaning.{meaning_of, memory_layout_of}
use Rattle.nd_array_core.specs.growth.ReservedAlongAxis.{HasRoomFor}
use Rattle.nd_array_core.proofs.growth_lemmas.AppendInFilledStorage.{err_both, err_under, fits_more, grown_count, grown_or_kept, joined_shown, on_both, shown}
use Rattle.nd_array_core.proofs.growth_lemmas.CasesOfAppend.{added_is, goes_after, laid_after}
use Rattle.nd_array_core.proofs.growth.append.Array+A+D.append_in_place.Goals as goal

pub append_after-requires-clause-grows : goal.append_after-requires-clause-grows
unfolding meaning_of memory_layout_of
append_after-requires-clause-grows g c =
    let old = c.args.self.now in
    record { some = c.requires.some; holds = old.inside; own_places = old.separated refl c.requires.some; full = c.requires.can.0; moves_nothing = c.requires.can.1 }

pub invariant_of-self : goal.invariant_of-self
unfolding meaning_of memory_layout_of
invariant_of-self g c =
    let old = c.args.self.now in
    let w = grown_or_kept c.append_after.result (placement_of old.layout) (placement_of c.append_after.new.layout) c.args.axis.0 (meaning_of c.args.array.now) old.storage.items.items c.append_after.new.storage.items.items
    c.requires.comes.axis_exists c.requires.comes.other_axes_agree old.inside (old.separated refl c.requires.some) c.requires.can.0 c.append_after.ensures.grown c.append_after.ensures.put (on_err_weaker c.append_after.result (λ k. (k.0, ap placement_of k.1)) c.append_after.ensures.kept) in
    record { inside = w.0; separated = λ _ _. w.1 }

pub returns : goal.returns
unfolding meaning_of memory_layout_of
returns g c =
    let old = c.args.self.now in
    let ns = g.D.Dimension.lengths old.layout.dim in
    let comes = c.requires.comes in
    record {
      appended = let new = c.append_after.new in
          let m = meaning_of c.args.array.now in
          let axis = c.args.axis.0 in
          on_both c.append_after.result
          (λ grown put.
          let count = grown_count (placement_of old.layout) (placement_of new.layout) axis m old.storage.items.items new.storage.items.items comes.axis_exists comes.other_axes_agree grown.lengths grown.kept grown.fills put old.inside c.requires.can.0 in
          let goes = goes_after axis (get_or m.shape axis 0) (placement_of old.layout) (placement_of new.layout) old.storage.items.items new.storage.items.items grown put.front count in
          record {
            joined = joined_shown (placement_of old.layout) (placement_of new.layout) axis m old.storage.items.items new.storage.items.items
                comes.axis_exists comes.other_axes_agree grown.lengths grown.kept grown.fills put old.inside c.requires.can.0 (λ i outside. rw outside refl);
            laid = laid_after axis (get_or m.shape axis 0) (placement_of old.layout) (placement_of new.layout) old.storage.items.items new.storage.items.items
                comes.axis_exists c.requires.some (fits_more ns m.shape axis comes.axis_exists comes.other_axes_agree c.requires.more) c.requires.can.0 c.requires.can.1 grown put.front count;
            becomes_ready = λ _. goes.grows_on;
            goes_on = λ _. goes;
            room = λ _. c.append_after.ensures.room;
          })
          c.append_after.ensures.grown c.append_after.ensures.put;
      refused = let ms = (meaning_of c.args.array.now).shape in
          err_both c.append_after.result
          (λ kept clones. record {
            some = c.requires.more;
            meaning_kept = λ k. shown (placement_of (kept.1 k)) (slice_get (kept.0 k));
            array_left = (
              λ _. (
                ap (λ l. (placement_of l).lengths) kept.1,
                ap (λ l. (placement_of l).strides) kept.1,
                λ i k. (shown (placement_of (kept.1 k)) (slice_get (kept.0 k))).at i,
                λ i k. let p = placement_of (kept.1 k) in inside p.lengths i (place_number (place_of p.offset p.strides i)),
                ap (λ l. (placement_of l).offset) kept.1,
              ),
              λ _. kept.0,
            );
            room = λ _. c.append_after.ensures.room;
            enough = λ for_it. clones (subst (λ n. HasRoomFor n old.storage) (sym (added_is ns ms c.args.axis.0 comes.axis_exists comes.other_axes_agree)) for_it.1);
          })
          c.append_after.ensures.kept (err_under (MayLackForClone g.A.Clone.is_infallible (meaning_of c.args.array.now).at) c.append_after.result c.append_after.ensures.enough);
    }
