pub mod FirstNumberOfLine
pub mod KeywordSpelling
pub mod NumbersReadAndWritten
pub mod DigitsRead
pub mod PrintingInTurn
pub mod LineAndWordSplits
pub mod JoinedLines
