use Rattle.uses_nd_array_core.proofs.parts_written.fill_line_at.Goals as goal

pub returns-clause-kept : goal.returns-clause-kept
returns-clause-kept g c = c.index_axis_mut.ensures.kept _
