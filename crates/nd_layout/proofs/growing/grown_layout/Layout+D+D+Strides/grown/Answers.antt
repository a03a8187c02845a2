use Rattle.nd_layout.proofs.NamesFromOtherCrates.{◌∙◌, ap, arith, pos, set, ℤ, w64, to_z_pos, ints}
use Rattle.nd_layout.specs.LayoutStepsOfCalls.{placement_of}
use Rattle.nd_layout.proofs.order_lemmas.FullStorageAfterAppend.{valid_grown, is_grown}
use Rattle.nd_layout.proofs.growing.grown_layout.Layout+D+D+Strides.grown.Goals as goal

pub overflow_cast-size_of_others : goal.overflow_cast-size_of_others
overflow_cast-size_of_others g c = omega (arith, ints, c.size_of_others.ensures.small)

pub strided-requires : goal.strided-requires
strided-requires g c =
    let old = c.args.self.now in
    let others_stride = to_z_pos w64 c.size_of_others.result c.size_of_others.ensures.small ∙ ap pos c.size_of_others.ensures.value in
    let is = c.set.ensures ∙ ap (λ (t : ℤ). set (placement_of old).strides c.args.axis t) others_stride in
    record {
      valid = rw (c.longer-dim.ensures, is)
          (valid_grown (placement_of old) c.args.axis old.as_many c.requires.on c.requires.some c.requires.full c.requires.stays c.args.added c.requires.more c.requires.checked);
    }

pub returns : goal.returns
returns g c =
    let old = c.args.self.now in
    let others_stride = to_z_pos w64 c.size_of_others.result c.size_of_others.ensures.small ∙ ap pos c.size_of_others.ensures.value in
    let is = c.set.ensures ∙ ap (λ (t : ℤ). set (placement_of old).strides c.args.axis t) others_stride in
    is_grown (placement_of old) c.args.axis old.as_many c.requires.on c.requires.some c.requires.full c.requires.stays c.args.added c.requires.more
    (placement_of c.strided.result) c.strided.ensures.offset (c.strided.ensures.lengths ∙ c.longer-dim.ensures) (c.strided.ensures.strides ∙ is)
