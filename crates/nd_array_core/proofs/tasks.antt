-- Lemmas of what a task is handed and what it leaves: of the whole array, of a part, and of two.
pub mod ClosureOnView
pub mod TwoBorrowedParts
pub mod StorageAfterTwoViews
pub mod ClosureOnPartViews
pub mod ClosureOnSliceView
