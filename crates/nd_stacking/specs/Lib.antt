pub mod ConcatenateAndStack
pub mod ConcatenationByRuns
