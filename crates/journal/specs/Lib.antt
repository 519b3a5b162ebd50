-- Definitions on the journal line.
pub mod Kinds
pub mod ReadLine
pub mod FieldParts
pub mod JournalLine
pub mod JournalParts
