-- Laws on the journal line.
pub mod Letters
pub mod CallParts
pub mod JournalLines
pub mod Exact
