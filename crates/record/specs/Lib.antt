-- Definitions on output records: their kinds, their 32 bytes, and what bytes are read as.
pub mod Sizes
pub mod Kinds
pub mod Layout
pub mod Within
pub mod Fields
pub mod Decoded
pub mod Markers
