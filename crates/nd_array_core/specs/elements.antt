-- Words for calls over all elements.
pub use Rattle.nd_elements.specs.elements.AssignedElements
pub use Rattle.nd_elements.specs.elements.ElementChanges
pub use Rattle.nd_elements.specs.elements.ElementFolds
pub use Rattle.nd_elements.specs.elements.ElementMaps
pub use Rattle.nd_elements.specs.elements.ElementMapsMut
pub mod BroadcastPairs
pub mod PairMapsAndFolds
pub mod ArrayMaps
pub mod IndexedChanges
pub mod TripleMaps
