pub mod HeatStep
pub mod ElementwiseFloatArithmetic
pub mod StandardisedColumns
pub mod DistancesAndWindowMeans
pub mod NearestCentres
pub mod WrappingListSums
pub mod ThreeImagesJoined
