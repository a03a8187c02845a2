use Rattle.nd_elements.proofs.NamesFromOtherCrates.{◌+◌, ◌<◌, ◌∙◌, pos, refl, ap, sym, length, get_or, slice_set, arith, slice_get, slice_get-get_or, got_still, set_there}
use Rattle.nd_elements.proofs.along_lemmas.AccumulateLaneAsSlice.{got_next, left_but_next, long_after}
use Rattle.nd_elements.proofs.along.accumulate_contiguous.change_after_slice.Goals as goal

pub returns : goal.returns
returns g c =
    let split = c.split_at_mut-before.ensures in record {
      called =
          let nth = c.args.nth in
          let front = c.split_at_mut-before.result.0.now in
          let back = c.split_at_mut-before.result.1.now in
          let x = get_or front nth c.index-before-nth.result in
          let front_len = split.front_len in
          let back_len = split.back_len in
          let some : 0 < length back = omega (arith, c.requires.within, back_len) in (
            x,
            get_or back 0 c.index-rest-0.result,
            c.f.new.arg3,
            ap (λ xs. slice_get xs nth) split.value ∙ got_still front back nth x (slice_get-get_or front nth c.index-before-nth.result (omega (arith, front_len))),
            ap (λ xs. slice_get xs (nth + 1)) split.value ∙ (got_next front back (nth + 1) front_len ∙ slice_get-get_or back 0 c.index-rest-0.result some),
            got_next front (slice_set back 0 c.f.new.arg3) (nth + 1) front_len ∙ set_there back 0 c.f.new.arg3 some,
            record { shown = _; shows = refl; given = _; gives = refl; left = _; called = c.f.ensures; leaves = refl },
          );
      left = (λ p other. left_but_next c.split_at_mut-before.result.0.now c.split_at_mut-before.result.1.now c.f.new.arg3 (c.args.nth + 1) p split.front_len (λ e. other (ap pos e))
          ∙ ap (λ xs. slice_get xs p) (sym split.value));
      long = long_after c.split_at_mut-before.result.0.now c.split_at_mut-before.result.1.now c.f.new.arg3 ∙ ap length (sym split.value);
    }

pub f-requires : goal.f-requires
f-requires g c =
    let nth = c.args.nth in
    let split = c.split_at_mut-before.ensures in
    let front = c.split_at_mut-before.result.0.now in
    let back = c.split_at_mut-before.result.1.now in
    c.requires.callable _ _
    (ap (λ xs. slice_get xs nth) split.value ∙ got_still front back nth (get_or front nth c.index-before-nth.result) (slice_get-get_or front nth c.index-before-nth.result (omega (arith, split.front_len))))
    (ap (λ xs. slice_get xs (nth + 1)) split.value ∙ (got_next front back (nth + 1) split.front_len ∙ slice_get-get_or back 0 c.index-rest-0.result (omega (arith, c.requires.within, split.back_len))))
