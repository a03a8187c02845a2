use Rattle.nd_layout.proofs.NamesFromOtherCrates.{◌<◌, eqb, false≢true, or_right, size_of}
use Rattle.nd_layout.specs.ConstructorRefusals.{is_separated}
use Rattle.nd_layout.proofs.steps.NewLayoutsInAnOrder.{none_or_some}
use Rattle.nd_layout.proofs.steps.GivenStrides.{test_of_separated, apart_by_test}
use Rattle.nd_layout.proofs.layout.given_strides.keeps_apart.Goals as goal

pub returns-else-is_empty_shape : goal.returns-else-is_empty_shape
returns-else-is_empty_shape c =
    let ns = c.args.lengths.now in
    let ss = c.args.strides.now in
    let some : 0 < size_of ns = none_or_some (0 < size_of ns) (size_of ns) (λ none. absurd (false≢true (c.if-is_empty_shape.ensures.1 none))) (λ some. some) in (
      λ yes. or_right (eqb (size_of ns) 0) (is_separated ns ss) (test_of_separated ns ss (c.separated.ensures.0 yes)),
      λ test. c.separated.ensures.1 (apart_by_test ns ss test some),
    )
