-- Laws on places: the test for a bucket, and the first place that passes a test.
pub mod BucketTest
pub mod FirstPlaces
