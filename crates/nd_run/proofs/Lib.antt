pub mod CountedElements
pub mod WholeProgram
pub mod ReplyAndArrayOfOneCall
pub mod ElementsWrittenInOrder
pub mod RunCallByCall
pub mod JoinedArrays
