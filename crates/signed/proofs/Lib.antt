-- Laws on signed numbers.
pub mod Comparing
pub mod Negation
pub mod Twos
pub mod Nearest
pub mod Mean
