use Rattle.nd_array_core.proofs.scoped.with_slice_mut.sliced_on.Goals as goal

pub returns-clause-lengths : goal.returns-clause-lengths
returns-clause-lengths g c = let same = c.copied-layout.ensures in rw same.lengths at c.slice_axis.ensures.lengths

pub returns-clause-step : goal.returns-clause-step
returns-clause-step g c = let same = c.copied-layout.ensures in rw (same.offset, same.lengths, same.strides) at c.slice_axis.ensures.step
