use Rattle.nd_array_core.proofs.NamesFromOtherCrates.{◌≡◌, ◌∙◌, ap, refl, arith, false, in_box}
use Rattle.nd_array_core.specs.ArrayMeaning.{meaning_of, shape_of, element_at}
use Rattle.nd_array_core.proofs.along_lemmas.AxisAccumulating.{axis_settled, axis_without}
use Rattle.nd_array_core.proofs.along.accumulate_axis.ArrayBase+S+D.accumulate_axis_inplace.Goals as goal

pub returns-then-len_of-gt0-clause-alike : goal.returns-then-len_of-gt0-clause-alike
unfolding meaning_of
returns-then-len_of-gt0-clause-alike g c =
    let array = c.args.self.now in
    let new = c.accumulate_some.new.self in
    axis_settled g.F.FnMut (shape_of array) c.args.axis.0 c.requires.axis (element_at array) (element_at new) c.args.f
    (λ i out. let past : in_box (g.D.Dimension.lengths new.layout.dim) i ≡ false = ap (λ ms. in_box ms i) c.accumulate_some.ensures.frame.0 ∙ out in rw past refl)
    (λ i out. rw out refl) c.accumulate_some.ensures.visits

pub returns-else-len_of-gt0-clause-visits : goal.returns-else-len_of-gt0-clause-visits
returns-else-len_of-gt0-clause-visits g c =
    let array = c.args.self.now in
    let test = c.if-len_of-gt0.false in
    let value = c.len_of.ensures.value in
    axis_without g.F.FnMut (shape_of array) c.args.axis.0 c.requires.axis (element_at array) (element_at array) c.args.f (omega (arith, test, value)) (element_at array)

pub returns-else-len_of-gt0-clause-alike : goal.returns-else-len_of-gt0-clause-alike
unfolding meaning_of
returns-else-len_of-gt0-clause-alike g c =
    let array = c.args.self.now in
    axis_settled g.F.FnMut (shape_of array) c.args.axis.0 c.requires.axis (element_at array) (element_at array) c.args.f (λ i out. rw out refl) (λ i out. rw out refl) (returns-else-len_of-gt0-clause-visits g c)
