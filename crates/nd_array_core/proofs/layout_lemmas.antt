-- Lemmas of other layouts of the same elements: what a layout step gives an array.
pub mod ElementsUnderNewLayout
pub mod TakenAndLeftStorage
pub mod DisjointSliceLists
pub mod PartOfWholeView
pub mod ViewOfCopiedLayout
pub mod MaskedStorage
pub mod SeparateSliceLists
