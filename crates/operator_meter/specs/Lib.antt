-- Definitions on a meter.
pub mod Values
pub mod Bounds
