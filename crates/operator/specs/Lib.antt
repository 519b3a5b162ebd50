-- Definitions on the operator.
pub mod Meters
pub mod Results
pub mod Parts
pub mod Work
pub mod Loaded
pub mod Bucket
pub mod Pass
