use Rattle.nd_npy_run.proofs.steps.steps_on_arrays.step_taken.Goals as goal

pub returns-in-View : goal.returns-in-View
returns-in-View g c = rw c.in-View.is c.stepped.ensures

pub returns-in-Select : goal.returns-in-Select
returns-in-Select g c = rw (c.in-Select.is, ← c.as_slice.ensures.value) c.chosen.ensures

pub returns-in-Reshape : goal.returns-in-Reshape
returns-in-Reshape g c = rw (c.in-Reshape.is, ← c.as_slice-in-Reshape.ensures.value) c.regrouped.ensures
