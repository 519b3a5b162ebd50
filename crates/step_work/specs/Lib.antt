-- The store that a bucket is worked from.
pub mod Stores
