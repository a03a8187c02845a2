use Rattle.std.proofs.Common.{◌≡◌, ◌<◌, ℕ, ℤ, List, length, ap, subst, sym, ◌∙◌}
use Rattle.nd_array_core.specs.Prelude.{Meaning, meaning_of, joined_in_turn}
use Rattle.nd_array_core.specs.growth.AppendEach.{meanings_of, FitInTurn}
use Rattle.nd_array_core.specs.growth.ReservedAlongAxis.{HasRoomAlong}
use Rattle.nd_array_core.specs.growth.StorageOfAppend.{IsReadyUnder}
use Rattle.uses_nd_array_core.proofs.appends_within_capacity.reserve_and_append_each.Goals as goal

still_ready : {A : Type 0} (axis : ℕ) (ns ms : List ℕ) (ss ts : List ℤ) (xs ys : List A) → ms ≡ ns → ts ≡ ss → ys ≡ xs → IsReadyUnder axis (record { offset = 0; lengths = ns; strides = ss }) xs → IsReadyUnder axis (record { offset = 0; lengths = ms; strides = ts }) ys
still_ready {A} axis ns ms ss ts xs ys lengths strides items ready =
    let with_items = subst (λ (ys : List A). IsReadyUnder axis (record { offset = 0; lengths = ns; strides = ss }) ys) (sym items) ready in
    let with_strides = subst (λ (ts : List ℤ). IsReadyUnder axis (record { offset = 0; lengths = ns; strides = ts }) ys) (sym strides) with_items in
    subst (λ (ms : List ℕ). IsReadyUnder axis (record { offset = 0; lengths = ms; strides = ts }) ys) (sym lengths) with_strides

pub append_each_in_room-requires-clause-axis : goal.append_each_in_room-requires-clause-axis
append_each_in_room-requires-clause-axis g c = subst (λ ns. c.args.axis.0 < length ns) (sym c.reserve.ensures.whole.0) c.requires.axis

pub append_each_in_room-requires-clause-ready : goal.append_each_in_room-requires-clause-ready
append_each_in_room-requires-clause-ready g c =
    let whole = c.reserve.ensures.whole in (
      still_ready c.args.axis.0 _ _ _ _ _ _ whole.0 whole.1 c.reserve.ensures.stored c.requires.ready,
      subst (λ k. HasRoomAlong c.args.axis.0 k c.reserve.new.self) c.requires.lengths c.in_ok-reserve.ensures.room,
    )

pub append_each_in_room-requires-clause-fits : goal.append_each_in_room-requires-clause-fits
append_each_in_room-requires-clause-fits g c = subst (λ ns. FitInTurn c.args.axis.0 ns (meanings_of c.args.arrays.now)) (sym c.reserve.ensures.whole.0) c.requires.fits

same_meaning : {A : Type 0} (m n : Meaning A) → m.shape ≡ n.shape → ((i : List ℕ) → m.at i ≡ n.at i) → m ≡ n
same_meaning m n shape elements = λ t. record { shape = shape t; at = λ i. elements i t }

pub returns : goal.returns
returns g c =
    let whole = c.reserve.ensures.whole in
    let same = same_meaning (meaning_of c.reserve.new.self) (meaning_of c.args.array.now) whole.0 whole.2 in
    record { joined = c.append_each_in_room.ensures.joined ∙ ap (λ m. joined_in_turn c.args.axis.0 m (meanings_of c.args.arrays.now)) same }
