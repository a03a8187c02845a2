-- Lemmas of owned arrays that grow.
pub mod JoinedParts
pub mod BroadcastAppends
pub mod ShapesThatFitAfter
pub mod CasesOfAppend
pub mod JoinedInTurn
pub mod PushedArrays
pub mod AppendsInTurn
pub mod ReservedLengths
pub mod AppendInFilledStorage
pub mod FreshStorage
