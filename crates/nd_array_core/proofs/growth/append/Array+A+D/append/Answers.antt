use Rattle.nd_array_core.proofs.NamesFromOtherCrates.{ℕ, List, ◌≡◌, ◌∙◌, ◌+◌, ◌<◌, ◌≤◌, ap, get_or, length, refl, set, subst, sym, inr, rules, vec_capacity, size_of, HasCheckedSize, broadcast_index}
use Rattle.nd_array_core.specs.ConcatenationAndSplit.{broadcast_after, appended_shape}
use Rattle.nd_array_core.specs.ArrayMeaning.{meaning_of, memory_layout_of}
use Rattle.nd_array_core.specs.growth.StorageOfAppend.{BecomesReady, IsGrownBy, KeepsRoom}
use Rattle.nd_array_core.specs.growth.ReservedAlongAxis.{added_elements, HasRoomAlong}
use Rattle.nd_array_core.proofs.growth_lemmas.AppendInFilledStorage.{same_at}
use Rattle.nd_array_core.proofs.elements_lemmas.LackOfMemory.{inside_some, part_refused}
use Rattle.nd_array_core.proofs.growth_lemmas.AppendsInTurn.{needs_no_move}
use Rattle.nd_array_core.proofs.growth_lemmas.CasesOfAppend.{room_spared}
use Rattle.nd_array_core.proofs.growth_lemmas.BroadcastAppends.{alike_after, axis_after, joined_after, size_after, with_itself}
use Rattle.nd_array_core.proofs.growth.append.Array+A+D.append.Goals as goal

-- the length of the axis of what is put after it is that of the array, broadcast or not
length_after : (ns ms shape : List ℕ) (a : ℕ) → a < length ns → shape ≡ appended_shape ns ms a → get_or shape a 0 ≡ get_or ms a 0
length_after ns ms shape a on is = ap (λ s. get_or s a 0) is ∙ axis_after ns ms a on

pub append_as_it_is-requires-clause-comes : goal.append_as_it_is-requires-clause-comes
unfolding meaning_of
append_as_it_is-requires-clause-comes g c =
    let old = meaning_of c.args.self.now in
    let array = meaning_of c.args.array in
    let axis = c.args.axis.0 in
    let done = c.in-Ok.ensures in
    let on = c.requires.axis done.fits.0 in
    let shape = c.broadcast_after-stretched.ensures.part.0 in
    let long = length_after old.shape array.shape _ axis on shape in
    record {
      axis_exists = on;
      other_axes_agree = alike_after old.shape array.shape axis on (meaning_of c.broadcast_after-stretched.result).shape done.fits shape;
      size_checked = subst HasCheckedSize (done.joined ∙ ap (λ k. set old.shape axis (get_or old.shape axis 0 + k)) (sym long)) done.checked;
    }

pub append_as_it_is-requires-clause-dim : goal.append_as_it_is-requires-clause-dim
unfolding meaning_of
append_as_it_is-requires-clause-dim g c =
    let old = meaning_of c.args.self.now in
    let axis = c.args.axis.0 in
    let long = length_after (meaning_of c.args.self.now).shape (meaning_of c.args.array).shape _ axis (c.requires.axis c.in-Ok.ensures.fits.0) c.broadcast_after-stretched.ensures.part.0 in
    c.in-Ok.ensures.joined ∙ ap (λ k. set old.shape axis (get_or old.shape axis 0 + k)) (sym long)

pub append_as_it_is-requires-clause-clones : goal.append_as_it_is-requires-clause-clones
unfolding meaning_of
append_as_it_is-requires-clause-clones g c =
    let old = meaning_of c.args.self.now in
    let array = meaning_of c.args.array in
    λ i x is. let to = appended_shape old.shape array.shape c.args.axis.0 in
    c.requires.clones (broadcast_index array.shape to i) x (inside_some to i (array.at (broadcast_index array.shape to i)) x (sym (c.broadcast_after-stretched.ensures.part.2 i) ∙ is))

pub returns-in-Ok-append_as_it_is : goal.returns-in-Ok-append_as_it_is
unfolding meaning_of memory_layout_of
returns-in-Ok-append_as_it_is g c =
    let old = meaning_of c.args.self.now in
    let array = meaning_of c.args.array in
    let view = meaning_of c.broadcast_after-stretched.result in
    let axis = c.args.axis.0 in
    let fits = c.in-Ok.ensures.fits in
    let part = c.broadcast_after-stretched.ensures.part in
    let long = length_after (meaning_of c.args.self.now).shape (meaning_of c.args.array).shape _ axis (c.requires.axis c.in-Ok.ensures.fits.0) c.broadcast_after-stretched.ensures.part.0 in
    record {
      refused = search rules;
      fits = search rules;
      plain = λ alike. c.in-Ok-append_as_it_is.ensures.appended.joined
          ∙ (joined_after axis old array view (c.requires.axis fits.0) fits (same_at view (broadcast_after axis old array) part.0 part.2)
          ∙ with_itself axis old array alike (λ i outside. rw outside refl));
      joined = c.in-Ok-append_as_it_is.ensures.appended.joined ∙ joined_after axis old array view (c.requires.axis fits.0) fits (same_at view (broadcast_after axis old array) part.0 part.2);
      kept = search rules;
      laid = subst (λ k. IsGrownBy axis k c.args.self.now c.append_as_it_is.new.self) long c.in-Ok-append_as_it_is.ensures.appended.laid;
      ready = subst (λ k. BecomesReady axis k c.args.self.now c.append_as_it_is.new.self) long c.in-Ok-append_as_it_is.ensures.appended.becomes_ready;
      goes_on = c.in-Ok-append_as_it_is.ensures.appended.goes_on;
      left = search rules;
      room = subst (λ k. KeepsRoom axis k c.args.self.now c.append_as_it_is.new.self) long c.in-Ok-append_as_it_is.ensures.appended.room;
      room_left = λ ready more room. let old = c.args.self.now in
          let new = c.append_as_it_is.new.self in
          let ns = g.D.Dimension.lengths old.layout.dim in
          let ms = g.D.Dimension.lengths c.args.array.layout.dim in
          let vs = g.D.Dimension.lengths c.broadcast_after-stretched.result.layout.dim in
          let on = c.requires.axis fits.0 in
          let shape = c.broadcast_after-stretched.ensures.part.0 in
          let long = length_after ns ms vs axis on shape in
          let done = c.in-Ok-append_as_it_is.ensures.appended in
          room_spared ns vs (g.D.Dimension.lengths new.layout.dim) axis more (length old.storage.items.items) (length new.storage.items.items) (vec_capacity old.storage.items) (vec_capacity new.storage.items)
          on (alike_after ns ms axis on vs fits shape) (ap (λ m. m.shape) done.joined) ready.0 (done.goes_on ready).grows_on.0 (done.room (inr (needs_no_move axis old ready)))
          (subst (λ k. length old.storage.items.items + added_elements ns axis (more + k) ≤ vec_capacity old.storage.items) (sym long) room);
      room_kept = search rules;
      enough = search rules;
    }

pub returns-in-Err-append_as_it_is : goal.returns-in-Err-append_as_it_is
unfolding meaning_of
returns-in-Err-append_as_it_is g c =
    let axis = c.args.axis.0 in
    let long = length_after (meaning_of c.args.self.now).shape (meaning_of c.args.array).shape _ axis (c.requires.axis c.in-Ok.ensures.fits.0) c.broadcast_after-stretched.ensures.part.0 in
    let old = meaning_of c.args.self.now in
    let array = meaning_of c.args.array in
    record {
      refused = let done = c.in-Ok.ensures in
          let size = ap size_of c.broadcast_after-stretched.ensures.part.0 ∙ size_after old.shape array.shape c.args.axis.0 (c.requires.axis done.fits.0) in
          ((done.fits, subst HasCheckedSize done.joined done.checked), subst (λ n. 0 < n) size c.in-Err-append_as_it_is.ensures.refused.some);
      fits = search rules;
      plain = search rules;
      joined = search rules;
      kept = c.in-Err-append_as_it_is.ensures.refused.meaning_kept;
      laid = search rules;
      ready = search rules;
      goes_on = search rules;
      left = c.in-Err-append_as_it_is.ensures.refused.array_left;
      room = subst (λ k. KeepsRoom axis k c.args.self.now c.append_as_it_is.new.self) long c.in-Err-append_as_it_is.ensures.refused.room;
      room_left = search rules;
      room_kept = search rules;
      enough = λ for_it. let view = meaning_of c.broadcast_after-stretched.result in
          let part = c.broadcast_after-stretched.ensures.part in
          let to = appended_shape old.shape array.shape axis in
          part_refused g.A.Clone.is_infallible array.at view.at to (broadcast_index array.shape to) part.2
          (c.in-Err-append_as_it_is.ensures.refused.enough (for_it.0, subst (λ k. HasRoomAlong axis k c.args.self.now) (sym long) for_it.1));
    }
