-- Words for arithmetic on arrays.
pub mod ElementwiseArithmetic
