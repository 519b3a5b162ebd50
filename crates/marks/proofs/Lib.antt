-- Laws on marks by the word.
pub mod Bits
pub mod Places
pub mod Next
pub mod Words
pub mod Edges
