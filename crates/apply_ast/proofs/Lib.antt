pub mod Appended
mod GrammarRows
pub mod Joining
pub mod PlainTexts
mod PrintedNumbers
pub mod PrintedTexts
pub mod PrintingEquations
mod PrintingRows
pub mod QuotedTexts
pub mod TextsWritable
pub mod TreeWords
pub mod ViewEquations
pub mod WrittenLists
