-- Lemmas of calls that lend views to a task.
pub mod FilledSlicesByTest
pub mod AssignedSlices
