-- Laws on the box's two clocks.
pub mod Room
pub mod Buckets
pub mod Windows
