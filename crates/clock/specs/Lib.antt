-- Definitions on the box's two clocks: buckets and windows of reading time, and the hold on the arrival clock.
pub mod Buckets
pub mod Windows
pub mod Hold
