-- Laws on decimal numbers in text: how they are written, what a text spells, and that the two agree.
pub mod Digits
pub mod Decimals
pub mod Filled
pub mod Pairs
pub mod Runs
pub mod Scanned
pub mod Numbers
pub mod FirstDigits
pub mod NumberText
pub mod Integers
