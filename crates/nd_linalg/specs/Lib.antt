pub mod BorrowedOrCopiedElements
pub mod MatrixProductLaws
pub mod DotAndMatrixProducts
