-- Lemmas of axes from the fastest on: strides that serve another shape, standard layouts and runs.
pub mod SeparationOfJoinedAxes
pub mod RegroupedAxes
pub mod ServingStrides
pub mod AxisGroupSearch
pub mod StrideSearchOverLists
pub mod AxesFromFastest
pub mod StandardLayout
pub mod Pigeonhole
pub mod RunIsSeparatedWithFullSpan
pub mod RunBySpanAndStrides
pub mod SlowestAxisOfRun
pub mod RunFromSpan
