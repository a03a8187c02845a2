pub mod StepChecks
pub mod IndexesOfBoxes
pub mod StepEquations
pub mod PathMapComposition
pub mod WritePaths
pub mod WriteLaws
pub mod ArrayFromSplitParts
