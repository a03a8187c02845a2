use Rattle.nd_layout.proofs.NamesFromOtherCrates.{arith, rules, ◌<◌, ◌≡◌, ◌∙◌, [], sym, refl, drop, get_or, pos, FitsSigned, w64, to_z-of_z, false≢true, drop_all, size_of, RowMajor}
use Rattle.nd_layout.specs.RanksAndReshapeStrides.{fastest_first}
use Rattle.nd_layout.proofs.SizesOfChangedAxes.{size-le-product}
use Rattle.nd_layout.proofs.reshape_lemmas.AxesFromFastest.{length-ordered, rank_in-below}
use Rattle.nd_layout.proofs.reshape_lemmas.StandardLayout.{StepsBy-at, StepsBy-back, StepsBy-none, StepsBy-from_standard, standard_from_StepsBy, part_in_order}
use Rattle.nd_layout.proofs.reshape.standard_layouts_and_runs.is_standard.Goals as goal

pub returns-then-is_empty_shape : goal.returns-then-is_empty_shape
returns-then-is_empty_shape c =
    let none : size_of c.args.lengths.now ≡ 0 = search rules in
    (λ _ i h. absurd (omega (arith, rank_in-below RowMajor c.args.lengths.now i h)), λ _. refl)

pub steps_by-requires : goal.steps_by-requires
steps_by-requires c =
    let p = part_in_order RowMajor c.args.lengths.now c.loop-nth.expected c.loop-nth.nth (omega arith) (search rules) c.loop-nth.invariant.size in
    omega (arith, p.0, size-le-product c.args.lengths.now)

pub overflow_mul-expected : goal.overflow_mul-expected
overflow_mul-expected c =
    let p = part_in_order RowMajor c.args.lengths.now c.loop-nth.expected c.loop-nth.nth (omega arith) (search rules) c.loop-nth.invariant.size in
    rw c.nth_length-len.ensures (omega (arith, p.1, size-le-product c.args.lengths.now))

pub returns-then-not-steps_by : goal.returns-then-not-steps_by
returns-then-not-steps_by c =
    let ns = fastest_first RowMajor c.args.lengths.now in let ss = fastest_first RowMajor c.args.strides.now in
    let ln = length-ordered RowMajor c.args.lengths.now in let ls = length-ordered RowMajor c.args.strides.now in
    let p = part_in_order RowMajor c.args.lengths.now c.loop-nth.expected c.loop-nth.nth (omega arith) (search rules) c.loop-nth.invariant.size in
    let n_is : c.nth_length-len.result ≡ get_or ns c.loop-nth.nth 0 = c.nth_length-len.ensures in
    let f : FitsSigned w64 c.nth_stride.result = search rules in (
      λ no. absurd (false≢true no),
      λ standard.
          let here = c.loop-nth.invariant.steps.0 (StepsBy-from_standard c.args.lengths.now c.args.strides.now c.requires.as_many standard) in
          let first = (StepsBy-at c.loop-nth.expected ns ss c.loop-nth.nth (omega arith) (omega arith) p.2 here).0 in
          (c.if-not-steps_by.ensures {u = tt}).1 (λ long. to_z-of_z w64 c.nth_stride.result f ∙ c.nth_stride.ensures ∙ first (omega arith)),
    )

pub loop-nth-preserved : goal.loop-nth-preserved
loop-nth-preserved c =
    let ns = fastest_first RowMajor c.args.lengths.now in let ss = fastest_first RowMajor c.args.strides.now in
    let ln = length-ordered RowMajor c.args.lengths.now in let ls = length-ordered RowMajor c.args.strides.now in
    let nth = c.loop-nth.nth in let expected = c.loop-nth.expected in
    let p = part_in_order RowMajor c.args.lengths.now c.loop-nth.expected c.loop-nth.nth (omega arith) (search rules) c.loop-nth.invariant.size in
    let n_is : c.nth_length-len.result ≡ get_or ns nth 0 = c.nth_length-len.ensures in
    let first : 1 < get_or ns nth 0 → get_or ss nth (pos 0) ≡ pos expected =
    λ long. sym c.nth_stride.ensures ∙ sym (to_z-of_z w64 c.nth_stride.result (record { sfits = c.nth_stride.type_inv })) ∙ (c.if-not-steps_by.ensures {u = tt}).0 refl (λ is. omega arith) in
    rw c.nth_length-len.ensures
    (record {
      size = p.4;
      steps = (
        λ steps. (StepsBy-at expected ns ss nth (omega arith) (omega arith) p.2 (c.loop-nth.invariant.steps.0 steps)).1,
        λ rest. c.loop-nth.invariant.steps.1 (StepsBy-back expected ns ss nth (omega arith) (omega arith) p.2 first rest),
      );
    })

pub returns : goal.returns
returns c =
    let ns = fastest_first RowMajor c.args.lengths.now in let ss = fastest_first RowMajor c.args.strides.now in
    let ln = length-ordered RowMajor c.args.lengths.now in
    let none : drop c.loop-nth.nth ns ≡ [] = drop_all c.loop-nth.nth ns (omega arith) in
    let all = c.loop-nth.invariant.steps.1 (rw none (StepsBy-none c.loop-nth.expected (drop c.loop-nth.nth ss))) in
    (λ _. standard_from_StepsBy c.args.lengths.now c.args.strides.now c.requires.as_many all, λ _. refl)
