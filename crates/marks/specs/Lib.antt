-- Marks by the word.
pub mod Words
pub mod Marks
pub mod Next
