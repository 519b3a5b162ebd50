-- Laws on a bucket's work.
pub mod BucketReadings
pub mod Closing
pub mod Given
