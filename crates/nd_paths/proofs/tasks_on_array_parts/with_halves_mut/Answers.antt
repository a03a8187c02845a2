use Rattle.std.proofs.Common.{◌≡◌, sym, ap, subst}
use Rattle.nd_shape_and_slice.specs.LayoutIndexMaps.{lower_shape, upper_shape, upper_index}
use Rattle.nd_array_core.specs.ArrayMeaning.{meaning_of, place_at}
use Rattle.nd_paths.specs.CallbacksOnViewsAndSplits.{seen_below, seen_from, meaning_placed, meaning_left}
use Rattle.nd_paths.proofs.ArrayAfterPartChanged.{alike, left_seen, said_of}
use Rattle.nd_paths.proofs.tasks_on_array_parts.with_halves_mut.Goals as goal

pub with_split_at-requires-clause-callable : goal.with_split_at-requires-clause-callable
with_split_at-requires-clause-callable g c = λ v v' is is'.
    let m = meaning_of c.args.array.now in
    let axis = c.args.axis.0 in
    let pre = g.K.PairOfArraysTask.pre c.args.task in
    let one : meaning_placed v ≡ seen_below axis c.args.index m = alike (seen_below axis c.args.index m) (meaning_placed v) is.same_shape is.same_element in
    let two : meaning_placed v' ≡ seen_from axis c.args.index m = alike (seen_from axis c.args.index m) (meaning_placed v') is'.same_shape is'.same_element in
    subst (λ x. pre (meaning_placed v) x) (sym two) (subst (λ x. pre x (seen_from axis c.args.index m)) (sym one) c.requires.asks)

pub returns-clause-done : goal.returns-clause-done
returns-clause-done g c =
    let axis = c.args.axis.0 in
    let k = c.args.index in
    let post = g.K.PairOfArraysTask.post c.args.task in
    let before = c.args.array.now in
    let after = c.with_split_at.new.self in
    let old = meaning_of before in
    let new = meaning_of after in
    let frame = c.with_split_at.ensures.frame in
    let d = c.with_split_at.ensures.done in
    let one : meaning_placed d.0 ≡ seen_below axis k old = alike (seen_below axis k old) (meaning_placed d.0) d.4.same_shape d.4.same_element in
    let two : meaning_placed d.1 ≡ seen_from axis k old = alike (seen_from axis k old) (meaning_placed d.1) d.5.same_shape d.5.same_element in
    let left : meaning_left d.0 d.2 ≡ seen_below axis k new =
    left_seen d.0 d.2 (lower_shape old.shape axis k) (lower_shape new.shape axis k) (λ i. i) (place_at before) (place_at after) old.at new.at d.4 d.7 frame.2 (ap (λ ns. lower_shape ns axis k) frame.0) in
    let left' : meaning_left d.1 d.3 ≡ seen_from axis k new =
    left_seen d.1 d.3 (upper_shape old.shape axis k) (upper_shape new.shape axis k) (upper_index axis k) (place_at before) (place_at after) old.at new.at d.5 d.8 frame.2 (ap (λ ns. upper_shape ns axis k) frame.0) in
    said_of (λ m n o q. post m n o q c.with_split_at.result) one two left left' d.6
