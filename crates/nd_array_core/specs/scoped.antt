-- Definitions for calls that lend views to a task, a value with a method that is run on them.
pub use Rattle.nd_elements.specs.ScopedStorageCalls
pub mod ViewTasks
pub mod TasksOnParts
pub mod SlicesLentAsViews
pub mod FilledParts
pub mod AssignedOrChangedParts
