use Rattle.nd_array_core.proofs.NamesFromOtherCrates.{◌≡◌, ◌∙◌, ◌+◌, ap, length, sym, subst, arith, IfErr, OnOk, on_ok_weaker, IfErr-weaker, inserted_index, inserted_shape}
use Rattle.nd_array_core.specs.ArrayMeaning.{meaning_of, shape_of}
use Rattle.nd_array_core.specs.ConcatenationAndSplit.{concatenated}
use Rattle.nd_array_core.specs.LayoutLaws.{with_axis_inserted}
use Rattle.nd_array_core.specs.growth.Append.{CanComeAfter, IsAppendRefused, IsJoiningRefused, JoinsAlike}
use Rattle.nd_array_core.proofs.growth_lemmas.AppendInFilledStorage.{same_at}
use Rattle.nd_array_core.specs.growth.StorageOfAppend.{BecomesReady, IsGrownBy, KeepsRoom, NeedsOnlyClones, IsNotForMemory, LeavesRoom}
use Rattle.nd_array_core.specs.growth.ReservedAlongAxis.{HasRoomAlong}
use Rattle.nd_array_core.proofs.elements_lemmas.LackOfMemory.{part_refused}
use Rattle.nd_array_core.proofs.growth_lemmas.PushedArrays.{axis_within, for_part, one_fewer, one_pushed, other_axes}
use Rattle.nd_array_core.proofs.growth.push.Array+A+D.push.Goals as goal

pub returns-then-ndim-clause-refused : goal.returns-then-ndim-clause-refused
returns-then-ndim-clause-refused g c =
    let old = meaning_of c.args.self.now in
    let array = meaning_of c.args.array in
    subst (IsJoiningRefused old.shape (inserted_shape array.shape c.args.axis.0) c.args.axis.0) (sym c.from_kind.ensures)
    (other_axes old.shape array.shape c.args.axis.0 (λ e. c.if-ndim.true (let few = c.ndim.ensures.value in let all = c.ndim-2.ensures.value in omega (arith, e, few, all))))

pub with_axis-requires-clause-place : goal.with_axis-requires-clause-place
with_axis-requires-clause-place g c =
    let axes = ap (λ n. n + 1) (sym c.ndim.ensures.value) ∙ (c.if-ndim.false ∙ c.ndim-2.ensures.value) in
    axis_within (length (shape_of c.args.array)) (length (shape_of c.args.self.now)) c.args.axis.0 axes c.requires.axis

pub with_axis-requires-clause-few : goal.with_axis-requires-clause-few
with_axis-requires-clause-few g c = one_fewer (length (shape_of c.args.array)) c.ndim-2.result (ap (λ n. n + 1) (sym c.ndim.ensures.value) ∙ c.if-ndim.false) c.ndim-2.ensures.few

pub with_axis-requires-clause-axes_fit : goal.with_axis-requires-clause-axes_fit
with_axis-requires-clause-axes_fit g c = ap g.D.Dimension.has_axes (ap (λ n. n + 1) (sym c.ndim.ensures.value) ∙ c.if-ndim.false) ∙ c.ndim-2.ensures.number

pub append-requires-clause-axis : goal.append-requires-clause-axis
append-requires-clause-axis g c = c.requires.axis

pub returns : goal.returns
returns g c =
    let old = meaning_of c.args.self.now in
    let array = meaning_of c.args.array in
    let view = meaning_of c.with_axis.result in
    let axes : length array.shape + 1 ≡ length old.shape = ap (λ n. n + 1) (sym c.ndim.ensures.value) ∙ (c.if-ndim.false ∙ c.ndim-2.ensures.value) in
    let part = c.with_axis.ensures.part in
    let same = same_at (meaning_of c.with_axis.result) (with_axis_inserted c.args.axis.0 (meaning_of c.args.array)) part.0 part.2 in
    record {
      refused = subst (λ ms. IfErr c.append.result (IsAppendRefused (shape_of c.args.self.now) ms c.args.axis.0)) c.with_axis.ensures.part.0 c.append.ensures.refused;
      fits = subst (λ ms. OnOk c.append.result (CanComeAfter (shape_of c.args.self.now) ms c.args.axis.0)) c.with_axis.ensures.part.0 c.append.ensures.fits;
      plain = on_ok_weaker c.append.result (subst (λ m. JoinsAlike c.args.axis.0 old m (meaning_of c.append.new.self)) same) c.append.ensures.plain;
      joined = on_ok_weaker c.append.result (λ joined. joined ∙ ap (λ m. concatenated c.args.axis.0 (meaning_of c.args.self.now) m) same) c.append.ensures.joined;
      kept = c.append.ensures.kept;
      laid = on_ok_weaker c.append.result (λ laid. subst (λ n. IsGrownBy c.args.axis.0 n c.args.self.now c.append.new.self) (one_pushed old.shape array.shape view.shape c.args.axis.0 c.requires.axis axes c.with_axis.ensures.part.0) laid) c.append.ensures.laid;
      ready = on_ok_weaker c.append.result (λ ready. subst (λ n. BecomesReady c.args.axis.0 n c.args.self.now c.append.new.self) (one_pushed old.shape array.shape view.shape c.args.axis.0 c.requires.axis axes c.with_axis.ensures.part.0) ready) c.append.ensures.ready;
      goes_on = c.append.ensures.goes_on;
      left = c.append.ensures.left;
      room = subst (λ n. KeepsRoom c.args.axis.0 n c.args.self.now c.append.new.self) (one_pushed old.shape array.shape view.shape c.args.axis.0 c.requires.axis axes c.with_axis.ensures.part.0) c.append.ensures.room;
      room_left = λ ready. on_ok_weaker c.append.result (λ left. subst (λ n. LeavesRoom c.args.axis.0 n c.args.self.now c.append.new.self) (one_pushed old.shape array.shape view.shape c.args.axis.0 c.requires.axis axes c.with_axis.ensures.part.0) (left ready)) c.append.ensures.room_left;
      room_kept = c.append.ensures.room_kept;
      enough = λ for_it. let room = subst (λ n. HasRoomAlong c.args.axis.0 n c.args.self.now) (sym (one_pushed old.shape array.shape view.shape c.args.axis.0 c.requires.axis axes c.with_axis.ensures.part.0)) for_it.1 in
          IfErr-weaker c.append.result (NeedsOnlyClones g.A.Clone.is_infallible c.args.axis.0 c.args.self.now view) (IsNotForMemory g.A.Clone.is_infallible array.at)
          (λ e needs. for_part g.A.Clone.is_infallible view.at array.at (part_refused g.A.Clone.is_infallible array.at view.at (inserted_shape array.shape c.args.axis.0) (inserted_index c.args.axis.0) c.with_axis.ensures.part.2) e (needs (for_it.0, room)))
          c.append.ensures.enough;
    }
