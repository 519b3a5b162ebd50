-- Laws on lists, tests and words, on the order of readings inside a bucket, and on the columns.
pub mod Choices
pub mod Pairs
pub mod Over
pub mod Permutations
pub mod Keeping
pub mod Splitting
pub mod Amounts
pub mod Order
pub mod Sorting
pub mod Uniqueness
pub mod Gathering
pub mod Apart
pub mod Bucket
pub mod Maps
pub mod Columns
pub mod Runs
pub mod Shares
