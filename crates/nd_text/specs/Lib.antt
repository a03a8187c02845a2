pub mod InputReading
pub mod JoinedLinesLaw
pub mod DecimalNumerals
pub mod BufferedPrinting
pub mod KeywordSpelling
pub mod NumberTexts
pub mod WatchedReadersAndWriters
pub mod LinesAndWords
