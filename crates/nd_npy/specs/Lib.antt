pub mod ErrorTexts
pub mod FileBytesAndArrays
pub mod ItemByteLaws
pub mod ItemBytes
pub mod ReadBackLaws
pub mod StreamReadsAndWrites
pub mod WrittenElements
