use Rattle.nd_array_core.proofs.NamesFromOtherCrates.{◌∙◌, ap, arith, refl, sym, place_of, placement_of, slice_get, on_err_weaker, nil_from_length, MayLackForClone, inside, place_number}
use Rattle.nd_array_core.specs.ArrayMeaning.{meaning_of, memory_layout_of}
use Rattle.nd_array_core.proofs.growth_lemmas.AppendInFilledStorage.{err_three, err_under, fits_axis, on_both, same_none, shown}
use Rattle.nd_array_core.proofs.growth_lemmas.FreshStorage.{fresh_or_none, fresh_joined}
use Rattle.nd_array_core.proofs.growth_lemmas.CasesOfAppend.{added_is, goes_fresh, laid_fresh, ready_fresh}
use Rattle.nd_array_core.proofs.growth.append.Array+A+D.append_to_none.Goals as goal

pub append_fresh-requires-clause-on : goal.append_fresh-requires-clause-on
unfolding meaning_of
append_fresh-requires-clause-on g c = fits_axis (g.D.Dimension.lengths c.args.self.now.layout.dim) (g.D.Dimension.lengths c.args.array.now.layout.dim) c.args.axis.0 c.requires.comes.axis_exists c.requires.comes.other_axes_agree

pub invariant_of-self : goal.invariant_of-self
unfolding meaning_of memory_layout_of
invariant_of-self g c =
    let old = c.args.self.now in
    let array = c.args.array.now in
    let on = fits_axis (g.D.Dimension.lengths old.layout.dim) (g.D.Dimension.lengths array.layout.dim) c.args.axis.0 c.requires.comes.axis_exists c.requires.comes.other_axes_agree in
    let w = fresh_or_none (meaning_of array) c.args.axis.0 c.append_fresh.new.storage.items.items on c.requires.more array.layout.checked c.append_fresh.result (placement_of old.layout) (placement_of c.append_fresh.new.layout) c.requires.none
    c.append_fresh.ensures.laid c.append_fresh.ensures.put (on_err_weaker c.append_fresh.result (ap placement_of) c.append_fresh.ensures.kept) in
    record { inside = w.0; separated = λ _. w.1 }

pub returns : goal.returns
unfolding meaning_of memory_layout_of
returns g c =
    let old = c.args.self.now in
    let axis = c.args.axis.0 in
    let comes = c.requires.comes in
    record {
      appended = let new = c.append_fresh.new in
          let array = c.args.array.now in
          let ms = (meaning_of array).shape in
          let on = fits_axis (g.D.Dimension.lengths old.layout.dim) ms axis comes.axis_exists comes.other_axes_agree in
          on_both c.append_fresh.result
          (λ laid put.
          let ready = ready_fresh axis (placement_of old.layout) (placement_of new.layout) ms old.storage.items.items new.storage.items.items comes.axis_exists comes.other_axes_agree c.requires.none c.requires.more laid put.count in
          record {
            joined = fresh_joined (meaning_of array) axis new.storage.items.items on c.requires.more array.layout.checked (meaning_of old) (placement_of new.layout) comes.axis_exists comes.other_axes_agree c.requires.none laid put (λ i outside. rw outside refl);
            laid = laid_fresh axis (placement_of old.layout) (placement_of new.layout) ms old.storage.items.items new.storage.items.items comes.axis_exists comes.other_axes_agree c.requires.none c.requires.more laid put.count;
            becomes_ready = λ _. ready;
            goes_on = goes_fresh axis (placement_of old.layout) (placement_of new.layout) ms old.storage.items.items new.storage.items.items comes.axis_exists comes.other_axes_agree c.requires.none ready;
            room = λ _. c.append_fresh.ensures.room;
          })
          c.append_fresh.ensures.laid c.append_fresh.ensures.put;
      refused = let ns = g.D.Dimension.lengths old.layout.dim in
          let ms = (meaning_of c.args.array.now).shape in
          let count = added_is ns ms axis comes.axis_exists comes.other_axes_agree in
          let new = shown (placement_of c.append_fresh.new.layout) (slice_get c.append_fresh.new.storage.items.items) in
          err_three c.append_fresh.result
          (λ kept emptied clones. record {
            some = c.requires.more;
            meaning_kept = same_none new (meaning_of old) (ap (λ l. (placement_of l).lengths) kept) c.requires.none (λ i outside. rw outside refl) (λ i outside. rw outside refl);
            array_left = (
              λ _. (
                ap (λ l. (placement_of l).lengths) kept,
                ap (λ l. (placement_of l).strides) kept,
                λ i. ap (λ m. m.at i) (same_none new (meaning_of old) (ap (λ l. (placement_of l).lengths) kept) c.requires.none (λ i outside. rw outside refl) (λ i outside. rw outside refl)),
                λ i k. let p = placement_of (kept k) in inside p.lengths i (place_number (place_of p.offset p.strides i)),
                ap (λ l. (placement_of l).offset) kept,
              ),
              λ ready. emptied ∙ sym (nil_from_length old.storage.items.items (ready.0 ∙ c.requires.none)),
            );
            room = λ _. c.append_fresh.ensures.room;
            enough = λ for_it. clones (let had = for_it.1 in omega (arith, had, count));
          })
          c.append_fresh.ensures.kept c.append_fresh.ensures.left
          (err_under (MayLackForClone g.A.Clone.is_infallible (meaning_of c.args.array.now).at) c.append_fresh.result c.append_fresh.ensures.enough);
    }
