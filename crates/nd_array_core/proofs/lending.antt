-- Lemmas of views and slices that are lent: what the lender holds once they are over.
pub mod LendField
pub mod LendStorage
pub mod ElementsOutsideView
pub mod ViewsOfViews
pub mod RefilledPart
pub mod ArrayAfterElementWrite
pub mod ArrayAfterRunLent
pub mod LongerLivingReferences
pub mod ResultOwnership
pub mod SliceView
pub mod SevenContractClauses
pub mod RowsLent
pub mod RowsView
pub mod BoolAndOptionFacts
pub mod BorrowNarrowedToPart
pub mod KeptOutside
