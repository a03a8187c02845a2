use Rattle.nd_layout.proofs.NamesFromOtherCrates.{arith, rules, ◌<◌, ◌≡◌, ◌+◌, refl, inr, ⊎_elim, eqb-true, size_of, span_of}
use Rattle.nd_layout.specs.RanksAndReshapeStrides.{IsRun}
use Rattle.nd_layout.proofs.SizesOfChangedAxes.{size-le-product}
use Rattle.nd_layout.proofs.reshape_lemmas.RunBySpanAndStrides.{run_from, run_span, run_standard, run_strides, some_unless_standard}
use Rattle.nd_layout.proofs.reshape.standard_layouts_and_runs.is_run.Goals as goal

pub returns-then-is_standard : goal.returns-then-is_standard
returns-then-is_standard c = (λ _. inr (run_standard c.args.lengths.now c.args.strides.now (c.is_standard.ensures.0 (search rules))), λ _. refl)

pub count_of-requires-clause-some : goal.count_of-requires-clause-some
count_of-requires-clause-some c = some_unless_standard c.args.lengths.now c.args.strides.now c.is_standard.result c.is_standard.ensures (search rules)

pub count_of-requires-clause-fits : goal.count_of-requires-clause-fits
count_of-requires-clause-fits c = omega (arith, size-le-product c.args.lengths.now)

pub returns-then-reach-count_of : goal.returns-then-reach-count_of
returns-then-reach-count_of c =
    let ns = c.args.lengths.now in
    let ss = c.args.strides.now in
    let some = some_unless_standard ns ss c.is_standard.result c.is_standard.ensures (search rules) in
    let full : span_of ns ss + 1 ≡ size_of ns = omega (arith, c.in-Some.ensures, c.count_of.ensures) in (
      λ apart. inr (run_from ns ss c.requires.as_many full (c.separated.ensures.0 apart)),
      λ either. ⊎_elim
          (λ (none : size_of ns ≡ 0). absurd (omega arith))
          (λ (run : IsRun ns ss). c.separated.ensures.1 (run_strides ns ss c.requires.as_many some run))
          either,
    )

pub returns-else-reach-count_of : goal.returns-else-reach-count_of
returns-else-reach-count_of c =
    let ns = c.args.lengths.now in
    let ss = c.args.strides.now in
    let some = some_unless_standard ns ss c.is_standard.result c.is_standard.ensures (search rules) in (
      λ same. absurd (c.if-reach-count_of.false (eqb-true _ _ same)),
      λ either. ⊎_elim
          (λ (none : size_of ns ≡ 0). absurd (omega arith))
          (λ (run : IsRun ns ss). absurd (c.if-reach-count_of.false (omega (arith, run_span ns ss c.requires.as_many some run, c.in-Some.ensures, c.count_of.ensures))))
          either,
    )
