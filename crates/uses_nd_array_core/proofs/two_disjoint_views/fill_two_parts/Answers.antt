use Rattle.uses_nd_array_core.proofs.two_disjoint_views.fill_two_parts.Goals as goal

pub returns-clause-shape : goal.returns-clause-shape
returns-clause-shape g c = (c.multi_slice_mut.ensures.refilled _).0

pub returns-clause-strides : goal.returns-clause-strides
returns-clause-strides g c = (c.multi_slice_mut.ensures.refilled _).1

pub returns-clause-places : goal.returns-clause-places
returns-clause-places g c = (c.multi_slice_mut.ensures.refilled _).2

pub returns-clause-refilled : goal.returns-clause-refilled
returns-clause-refilled g c = c.multi_slice_mut.ensures.refilled _

pub returns-clause-kept : goal.returns-clause-kept
returns-clause-kept g c = c.multi_slice_mut.ensures.kept _
