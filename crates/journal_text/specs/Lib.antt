-- Definitions on the text of a journal line.
pub mod Sizes
pub mod JournalText
