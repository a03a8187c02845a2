use Rattle.nd_array_core.proofs.NamesFromOtherCrates.{◌≡◌, ℕ, ◌+◌, ◌<◌, ◌≤◌, List, [], get_or, length, map, take, ap, sym, subst, ◌∙◌, arith, refl, rules, length-map, length-set, take_all, in_box, HasCheckedSize, take_next, ClonesOfAllAreEqual, room_of, stored_list, grown_shape}
use Rattle.nd_shape_and_slice.proofs.ListEdits.{got_mapped as mapped_get}
use Rattle.nd_array_core.specs.ConcatenationAndSplit.{concatenated}
use Rattle.nd_array_core.specs.LayoutLaws.{NothingOutside}
use Rattle.nd_array_core.specs.ArrayMeaning.{meaning_of, shape_of, storage_of}
use Rattle.nd_array_core.specs.PartsOfArrays.{BecomesWhole}
use Rattle.nd_array_core.specs.growth.Append.{FitsAfter, IsAppendRefused}
use Rattle.nd_array_core.specs.growth.StorageOfAppend.{BecomesReady, IsGrownBy, IsNotForMemory, KeepsRoom, LeavesRoom}
use Rattle.nd_array_core.specs.growth.AppendEach.{joined_in_turn, lengths_along, meanings_of, IsGrownInTurn}
use Rattle.nd_array_core.proofs.growth_lemmas.AppendInFilledStorage.{same_at}
use Rattle.nd_array_core.proofs.growth_lemmas.AppendsInTurn.{grown_last, goes_left, goes_nowhere, goes_then, leaves_none, leaves_then, ready_then, room_then, still_then}
use Rattle.nd_array_core.proofs.growth_lemmas.CasesOfAppend.{room_within}
use Rattle.nd_array_core.proofs.growth_lemmas.JoinedInTurn.{all_fit, each_mapped, in_box-grown, joined_more, lengths_more, lengths_within, none_fit, one_more_fits, only_memory, shape_in_turn, taken_fit, turn_alike}
use Rattle.nd_array_core.proofs.growth.append_each.Array+A+D.append_each.Goals as goal

nothing_there : {X : Type 0} (xs : List X) (nth : ℕ) → nth < length xs → xs ≡ [] → ⊥
nothing_there xs nth below none = omega (arith, below, ap length none)

first_there : {X : Type 0} (xs : List X) (nth : ℕ) → nth ≤ length xs → xs ≡ [] → nth ≡ 0
first_there xs nth below none = omega (arith, below, ap length none)

all_taken : {X Y : Type 0} (f : X → Y) (xs : List X) (nth : ℕ) → length xs ≤ nth → take nth (map f xs) ≡ map f xs
all_taken f xs nth all = take_all nth (map f xs) (omega (arith, length-map xs f, all))

pub loop-nth-init : goal.loop-nth-init
loop-nth-init g c =
    let old = c.args.self.now in
    (c.requires.axis, refl, goes_nowhere c.args.axis.0 old, (λ _. omega arith), (λ _. leaves_none c.args.axis.0 old), (λ still. still), (λ some. absurd (omega (arith, some))), refl, none_fit c.args.axis.0 (shape_of old) (meanings_of c.args.arrays.now), (λ _. refl))

pub append-requires-clause-axis : goal.append-requires-clause-axis
append-requires-clause-axis g c = c.loop-nth.invariant.0

pub append-requires-clause-clones : goal.append-requires-clause-clones
append-requires-clause-clones g c =
    let x = c.index-arrays-nth.result in
    let whole = c.view.ensures.whole in
    subst (λ m. ClonesOfAllAreEqual g.A.Clone.is_clone m.at) (sym (same_at (meaning_of c.view.result) (meaning_of x) whole.0 whole.2))
    (c.requires.clones c.loop-nth.nth (meaning_of x) (mapped_get (λ a. meaning_of a) c.args.arrays.now c.loop-nth.nth x c.loop-nth-test.true c.index-arrays-nth.is))

pub returns-in-Err : goal.returns-in-Err
unfolding meaning_of
returns-in-Err g c =
    let x = c.index-arrays-nth.result in
    let axis = c.args.axis.0 in
    let old = c.args.self.now in
    let ms = meanings_of c.args.arrays.now in
    let nth = c.loop-nth.nth in
    let so_far = c.loop-nth.invariant in
    let shape = ap (λ m. m.shape) so_far.1 ∙ shape_in_turn axis (meaning_of old) (take nth ms) c.requires.axis in
    let get = mapped_get (λ a. meaning_of a) c.args.arrays.now nth x c.loop-nth-test.true c.index-arrays-nth.is in
    let within = lengths_within axis (meaning_of x) ms nth get in
    record {
      refused = (
        meaning_of x,
        mapped_get (λ a. meaning_of a) c.args.arrays.now c.loop-nth.nth x c.loop-nth-test.true c.index-arrays-nth.is,
        subst (λ m. IsAppendRefused m.shape (meaning_of x).shape axis c.in-Err.refused) (sym c.in-Err.ensures.kept)
            (subst (λ s. IsAppendRefused (meaning_of c.loop-nth.self).shape s axis c.in-Err.refused) c.view.ensures.whole.0 c.in-Err.ensures.refused),
      );
      plain = search rules;
      joined = search rules;
      kept = c.in-Err.ensures.kept ∙ c.loop-nth.invariant.1;
      none = λ none. absurd (nothing_there c.args.arrays.now c.loop-nth.nth c.loop-nth-test.true none);
      unchanged = λ none. absurd (nothing_there c.args.arrays.now c.loop-nth.nth c.loop-nth-test.true none);
      goes_on = λ ready. goes_left c.args.axis.0 c.args.self.now c.loop-nth.self c.append.new.self c.in-Err.refused c.in-Err.ensures.left (c.loop-nth.invariant.2 ready);
      room = let self = c.loop-nth.self in
          let room = subst (λ s. KeepsRoom axis (get_or s axis 0) self c.append.new.self) c.view.ensures.whole.0 c.in-Err.ensures.room in
          room_then axis (lengths_along axis (take nth ms)) (get_or (shape_of x) axis 0) (lengths_along axis ms) old self c.append.new.self shape (omega (arith, within)) so_far.3 so_far.5 room;
      ready = search rules;
      laid = search rules;
      left = (c.loop-nth.self, c.loop-nth.invariant.7, c.in-Err.ensures.left);
      before = (taken_fit axis (shape_of old) ms nth so_far.8, subst HasCheckedSize shape c.loop-nth.self.layout.checked);
      enough = λ for_all. let ready = for_all.0 in
          let room = for_all.1 in
          let whole = c.view.ensures.whole in
          let k = get_or (shape_of c.view.result) axis 0 in
          let same : k ≡ get_or (shape_of x) axis 0 = ap (λ s. get_or s axis 0) whole.0 in
          let taken = lengths_along axis (take nth ms) in
          let fewer : k + taken ≤ lengths_along axis ms = omega (arith, within, same) in
          let here = so_far.4 ready k (room_within (shape_of old) axis (k + taken) (lengths_along axis ms) (length (stored_list (storage_of old))) (room_of (storage_of old)) fewer room) in (
            meaning_of x,
            get,
            subst (λ m. IsNotForMemory g.A.Clone.is_infallible m.at c.in-Err.refused) (same_at (meaning_of c.view.result) (meaning_of x) whole.0 whole.2) (c.in-Err.ensures.enough ((so_far.2 ready).grows_on, here)),
          );
      fits = search rules;
      fitting = λ fit. let fits = fit.0 nth (meaning_of x) get in
          only_memory (shape_of old) (shape_of x) (shape_of c.loop-nth.self) axis (lengths_along axis (take nth ms)) (lengths_along axis ms) c.in-Err.refused
          (ap (λ m. m.shape) c.loop-nth.invariant.1 ∙ shape_in_turn axis (meaning_of old) (take nth ms) c.requires.axis)
          (c.requires.axis fits.0) fits (lengths_within axis (meaning_of x) ms nth get) fit.1
          (subst (λ s. IsAppendRefused (shape_of c.loop-nth.self) s axis c.in-Err.refused) c.view.ensures.whole.0 c.in-Err.ensures.refused);
    }

pub loop-nth-preserved : goal.loop-nth-preserved
loop-nth-preserved g c =
    let x = c.index-arrays-nth.result in
    let axis = c.args.axis.0 in
    let old = c.args.self.now in
    let self = c.loop-nth.self in
    let new = c.append.new.self in
    let ms = meanings_of c.args.arrays.now in
    let nth = c.loop-nth.nth in
    let whole = c.view.ensures.whole in
    let so_far = c.loop-nth.invariant in
    let done = c.in-Ok.ensures in
    let get = mapped_get (λ a. meaning_of a) c.args.arrays.now nth x c.loop-nth-test.true c.index-arrays-nth.is in
    let same = same_at (meaning_of c.view.result) (meaning_of x) whole.0 whole.2 in
    let joined : meaning_of new ≡ concatenated axis (meaning_of self) (meaning_of x) = done.joined ∙ ap (concatenated axis (meaning_of self)) same in
    let long : length (shape_of new) ≡ length (shape_of self) = ap (λ m. length m.shape) joined ∙ length-set (shape_of self) axis (get_or (shape_of self) axis 0 + get_or (shape_of x) axis 0) in
    let shape = ap (λ m. m.shape) so_far.1 ∙ shape_in_turn axis (meaning_of old) (take nth ms) c.requires.axis in
    let k = get_or (shape_of x) axis 0 in
    let taken = lengths_along axis (take nth ms) in
    let within = lengths_within axis (meaning_of x) ms nth get in
    let on = so_far.0 done.fits.0.0 in
    let longer : shape_of new ≡ grown_shape (shape_of self) axis k = ap (λ m. m.shape) joined in
    let becomes = subst (λ s. BecomesReady axis (get_or s axis 0) self new) whole.0 done.ready in
    let laid = subst (λ s. IsGrownBy axis (get_or s axis 0) self new) whole.0 done.laid in
    let room = subst (λ s. KeepsRoom axis (get_or s axis 0) self new) whole.0 done.room in (
      (λ some. let below = so_far.0 (omega (arith, some, long)) in omega (arith, below, long)),
      joined ∙ (ap (λ m. concatenated axis m (meaning_of x)) so_far.1 ∙ sym (joined_more axis (meaning_of old) (meaning_of x) ms nth get)),
      (λ ready. goes_then axis old self new (λ i h. ap (λ s. in_box s i) shape ∙ in_box-grown (shape_of old) i axis (lengths_along axis (take nth ms)) c.requires.axis h) (so_far.2 ready) (done.goes_on (so_far.2 ready).grows_on)),
      room_then axis taken k (lengths_along axis ms) old self new shape (omega (arith, within)) so_far.3 so_far.5 room,
      (λ ready.
          subst (λ n. LeavesRoom axis n old new) (sym (lengths_more axis (meaning_of x) ms nth get))
          (leaves_then axis (lengths_along axis (take nth ms)) (get_or (shape_of x) axis 0) old self new (so_far.4 ready)
          (subst (λ s. LeavesRoom axis (get_or s axis 0) self new) whole.0 (done.room_left (so_far.2 ready).grows_on)))),
      (λ still. still_then axis k self new on longer becomes done.goes_on (so_far.5 still)),
      subst (λ n. BecomesReady axis n old new) (sym (lengths_more axis (meaning_of x) ms nth get)) (ready_then axis taken k old self new shape so_far.6 becomes done.goes_on),
      subst (λ xs. IsGrownInTurn axis xs old new) (sym (take_next ms nth (meaning_of x) get)) (grown_last axis (take nth ms) (meaning_of x) old self new so_far.7 longer laid),
      one_more_fits nth axis taken (shape_of old) (shape_of self) (meaning_of x) ms so_far.8 get shape (subst (λ s. FitsAfter (shape_of self) s axis) whole.0 done.fits.0),
      (λ none. absurd (omega (arith, none))),
    )

pub returns : goal.returns
unfolding meaning_of
returns g c =
    let axis = c.args.axis.0 in
    let old = c.args.self.now in
    let ms = meanings_of c.args.arrays.now in
    let long : length ms ≡ length c.args.arrays.now = length-map c.args.arrays.now (λ a. meaning_of a) in
    let all : length ms ≤ c.loop-nth.nth = omega (arith, long, c.loop-nth-test.false) in
    record {
      refused = search rules;
      plain = λ alike. c.loop-nth.invariant.1
          ∙ (ap (joined_in_turn axis (meaning_of old)) (take_all c.loop-nth.nth ms all)
          ∙ turn_alike axis (meaning_of old) ms c.requires.axis (each_mapped (λ a. meaning_of a) NothingOutside c.args.arrays.now (λ x i outside. rw outside refl)) alike);
      joined = c.loop-nth.invariant.1 ∙ ap (joined_in_turn c.args.axis.0 (meaning_of c.args.self.now)) (all_taken (λ a. meaning_of a) c.args.arrays.now c.loop-nth.nth c.loop-nth-test.false);
      kept = search rules;
      none = λ none. refl;
      unchanged = λ none. subst (BecomesWhole c.args.self.now) (sym (c.loop-nth.invariant.9 (first_there c.args.arrays.now c.loop-nth.nth c.loop-nth.auto.nth-end none)))
          ((refl, refl, (λ i. refl), (λ i. refl), refl), refl);
      goes_on = c.loop-nth.invariant.2;
      room = c.loop-nth.invariant.3;
      ready = subst (λ xs. BecomesReady c.args.axis.0 (lengths_along c.args.axis.0 xs) c.args.self.now c.loop-nth.self) (all_taken (λ a. meaning_of a) c.args.arrays.now c.loop-nth.nth c.loop-nth-test.false) c.loop-nth.invariant.6;
      laid = subst (λ xs. IsGrownInTurn c.args.axis.0 xs c.args.self.now c.loop-nth.self) (all_taken (λ a. meaning_of a) c.args.arrays.now c.loop-nth.nth c.loop-nth-test.false) c.loop-nth.invariant.7;
      left = search rules;
      before = search rules;
      enough = search rules;
      fits = let self = c.loop-nth.self in
          let so_far = c.loop-nth.invariant in
          let shape = ap (λ m. m.shape) so_far.1 ∙ shape_in_turn axis (meaning_of old) (take c.loop-nth.nth ms) c.requires.axis in
          let whole = ap (λ xs. grown_shape (shape_of old) axis (lengths_along axis xs)) (take_all c.loop-nth.nth ms all) in
          (all_fit axis (shape_of old) ms c.loop-nth.nth so_far.8 all, subst HasCheckedSize (shape ∙ whole) self.layout.checked);
      fitting = search rules;
    }
