use Rattle.nd_array_core.proofs.NamesFromOtherCrates.{◌<◌, ◌∙◌, ap, arith, get_or, inr, length, subst, sym, on_ok_weaker, on_err_weaker, size_of, must_move, room_of, stored_list}
use Rattle.nd_array_core.specs.ArrayMeaning.{meaning_of, memory_layout_of}
use Rattle.nd_array_core.specs.growth.StorageOfAppend.{array_placement}
use Rattle.nd_array_core.specs.growth.AppendOutcomes.{ComesAsItIs}
use Rattle.nd_array_core.specs.growth.ReservedAlongAxis.{added_elements}
use Rattle.nd_array_core.specs.ConcatenationAndSplit.{concatenated}
use Rattle.nd_array_core.proofs.growth_lemmas.AppendInFilledStorage.{fits_more, same_at}
use Rattle.nd_array_core.proofs.growth_lemmas.CasesOfAppend.{can_grow, laid_by_relayout, moves_by, never_calm}
use Rattle.nd_array_core.proofs.growth.append.Array+A+D.append_with_relayout.Goals as goal

pub relayout-requires-clause-fits : goal.relayout-requires-clause-fits
relayout-requires-clause-fits g c = omega (arith, c.len-count.ensures.short, c.len-more.ensures.short, c.len-count.ensures.value)

pub append_in_place-requires-clause-comes : goal.append_in_place-requires-clause-comes
append_in_place-requires-clause-comes g c = subst (λ s. ComesAsItIs s (meaning_of c.args.array.now).shape c.args.axis.0) (sym c.relayout.ensures.shape) c.requires.comes

pub returns-in-Ok : goal.returns-in-Ok
unfolding meaning_of memory_layout_of
returns-in-Ok g c =
    let old = c.args.self.now in
    let relaid = c.relayout.new.self in
    let axis = c.args.axis.0 in
    let comes = c.requires.comes in
    let array = meaning_of c.args.array.now in
    let same = same_at (meaning_of relaid) (meaning_of old) c.relayout.ensures.shape c.relayout.ensures.elements in
    record {
      appended = let new = c.append_in_place.new.self in
          let k = get_or array.shape axis 0 in
          let to_grow = c.in-Ok.ensures.laid in
          on_ok_weaker c.append_in_place.result
          (λ done. record {
            joined = done.joined ∙ ap (λ m. concatenated axis m array) same;
            laid = laid_by_relayout axis k (array_placement old) (array_placement relaid) (array_placement new) old.storage.items.items relaid.storage.items.items new.storage.items.items
                comes.axis_exists c.requires.some (fits_more (array_placement old).lengths array.shape axis comes.axis_exists comes.other_axes_agree c.requires.more)
                to_grow.0 c.relayout.ensures.shape to_grow.1 to_grow.2
                (moves_by (length old.storage.items.items) (size_of (array_placement old).lengths) (must_move (array_placement old).lengths (array_placement old).strides axis) c.requires.moves)
                done.laid;
            becomes_ready = λ some. done.becomes_ready (subst (λ s. 0 < added_elements s axis k) (sym c.relayout.ensures.shape) some);
            goes_on = λ ready. absurd (c.requires.moves (can_grow axis (array_placement old) old.storage.items.items c.requires.some ready));
            room = λ calm. absurd (never_calm (array_placement old).lengths array.shape axis comes.axis_exists comes.other_axes_agree c.requires.some c.requires.more c.requires.moves calm);
          })
          c.append_in_place.ensures.appended;
      refused = on_err_weaker c.append_in_place.result
          (λ refused. record {
            some = refused.some;
            meaning_kept = refused.meaning_kept ∙ same;
            array_left = (
              λ still. absurd (never_calm (array_placement old).lengths array.shape axis comes.axis_exists comes.other_axes_agree c.requires.some c.requires.more c.requires.moves (inr still)),
              λ ready. absurd (c.requires.moves (can_grow axis (array_placement old) old.storage.items.items c.requires.some ready)),
            );
            room = λ calm. absurd (never_calm (array_placement old).lengths array.shape axis comes.axis_exists comes.other_axes_agree c.requires.some c.requires.more c.requires.moves calm);
            enough = λ for_it. absurd (c.requires.moves (can_grow axis (array_placement old) old.storage.items.items c.requires.some for_it.0));
          })
          c.append_in_place.ensures.refused;
    }

pub returns-in-Err-clause-refused : goal.returns-in-Err-clause-refused
unfolding meaning_of memory_layout_of
returns-in-Err-clause-refused g c =
    let old = c.args.self.now in
    let axis = c.args.axis.0 in
    let kept = c.in-Err.ensures.kept in
    record {
      some = c.requires.more;
      meaning_kept = same_at (meaning_of c.relayout.new.self) (meaning_of old) c.relayout.ensures.shape c.relayout.ensures.elements;
      array_left = (λ _. kept.0, λ _. ap stored_list kept.1);
      room = λ _. let same = ap room_of kept.1 in omega (arith, same);
      enough = λ for_it. absurd (c.requires.moves (can_grow axis (array_placement old) old.storage.items.items c.requires.some for_it.0));
    }
