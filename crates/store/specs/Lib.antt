-- Definitions on kept readings: lists of them, the order inside a bucket, and the store that keeps them.
pub mod Sizes
pub mod Lists
pub mod Order
pub mod Sorted
pub mod Columns
pub mod Parts
pub mod Lent
