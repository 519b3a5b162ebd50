-- Laws on the text of a journal line.
pub mod Lengths
pub mod Answers
pub mod ReadsBack
