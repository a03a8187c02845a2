pub mod SumsOfProducts
pub mod MatrixProductLaws
pub mod MatrixProductLoops
pub mod RowsOfCells
