pub mod ElementPairs
pub mod WrappingProducts
