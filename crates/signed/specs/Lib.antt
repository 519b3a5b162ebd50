-- Definitions on signed numbers.
pub mod Nearest
pub mod Mean
pub mod Range
pub mod Twos
