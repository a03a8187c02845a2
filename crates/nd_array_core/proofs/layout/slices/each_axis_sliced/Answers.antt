use Rattle.nd_array_core.proofs.NamesFromOtherCrates.{ap, size_of, subst, ◌∙◌, placement_of, same_placement}
use denote.Param.Members.{Called}
use Rattle.nd_layout.specs.LayoutStepsOfCalls.{IsEachSliced}
use Rattle.nd_array_core.proofs.layout.slices.each_axis_sliced.Goals as goal

pub slice_each_axis-requires : goal.slice_each_axis-requires
slice_each_axis-requires g c = let same = c.copied-left.ensures in rw (same.lengths, same.strides) c.requires.fit

pub returns : goal.returns
returns g c =
    let same = c.copied-left.ensures in
    let done = c.slice_each_axis.ensures in
    record {
      sliced = subst (λ whole. IsEachSliced (λ f x. Called g.F.FnMut f (x, tt)) c.args.f whole (placement_of c.slice_each_axis.new.self)) (same_placement (placement_of c.copied-left.result) (placement_of c.args.layout.now) same.offset same.lengths same.strides) done.sliced;
      empty = λ none. done.empty (ap size_of same.lengths ∙ none) ∙ same.offset;
    }
