pub use Rattle.nd_numbers.specs.Quotients
pub use Rattle.nd_array_core.specs.arithmetic.ElementwiseArithmetic
pub mod LeastAndGreatest
pub mod ExactSums
pub mod IndexOfLeastAndGreatest
pub mod Variances
pub mod SumsProductsAndMeans
pub mod WrappingSumsInAnyOrder
