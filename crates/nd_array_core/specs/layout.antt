-- Definitions for other layouts of the same elements: parts of an array, and views that are lent.
pub mod ViewsOfStorageParts
pub mod MultiSlice
pub mod ArrayAfterMutableView
pub mod ArraySlicedOnEachAxis
pub mod SeveralMutableViews
