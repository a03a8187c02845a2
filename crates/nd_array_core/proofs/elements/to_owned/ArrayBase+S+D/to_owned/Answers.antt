use Rattle.nd_array_core.proofs.elements.to_owned.ArrayBase+S+D.to_owned.Goals as goal

pub returns-then-is_run-clause-shape : goal.returns-then-is_run-clause-shape
returns-then-is_run-clause-shape g c = c.run_to_owned.ensures.shape

pub returns-then-is_run-clause-elements : goal.returns-then-is_run-clause-elements
returns-then-is_run-clause-elements g c = c.run_to_owned.ensures.elements

pub returns-then-is_run-clause-run : goal.returns-then-is_run-clause-run
returns-then-is_run-clause-run g c _ = c.run_to_owned.ensures.run

pub returns-then-is_run-clause-refused : goal.returns-then-is_run-clause-refused
returns-then-is_run-clause-refused g c = c.run_to_owned.ensures.refused

pub returns-else-is_run-clause-shape : goal.returns-else-is_run-clause-shape
returns-else-is_run-clause-shape g c = c.ordered_to_owned.ensures.shape

pub returns-else-is_run-clause-elements : goal.returns-else-is_run-clause-elements
returns-else-is_run-clause-elements g c = c.ordered_to_owned.ensures.elements

pub returns-else-is_run-clause-owns : goal.returns-else-is_run-clause-owns
returns-else-is_run-clause-owns g c _ = c.ordered_to_owned.ensures.owns

pub returns-else-is_run-clause-stored : goal.returns-else-is_run-clause-stored
returns-else-is_run-clause-stored g c _ = c.ordered_to_owned.ensures.stored

pub returns-else-is_run-clause-refused : goal.returns-else-is_run-clause-refused
returns-else-is_run-clause-refused g c = c.ordered_to_owned.ensures.refused
