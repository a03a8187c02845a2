pub mod StepTestsAndShapes
pub mod WritesThroughViewsAndSplits
pub mod StepListResults
pub mod WriteResults
pub mod ReservedCapacity
pub mod StepsAndWritesOnArrays
pub mod StepListLaws
