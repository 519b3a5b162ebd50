-- Laws on a meter.
pub mod Counted
pub mod Sums
pub mod Bounds
pub mod Results
